-- A function that takes one value, and whose `ensures` is a fact. A walk of its body shows that it meets its contract.
use mathlib.Core.Path.{◌≡◌}
use mathlib.Core.List.{List, [], ◌∷◌, ◌++◌}
use seplogic.Ra.Ura.{Ura}
use mir.Syntax.{Fn, Callee}
use mir.Val.{Val}
use base.Logic.{SProp, ent, emp}
use base.Fml.{ftrue, fsep}
use prog.Model.{Model}
use prog.Wp.{WpFn, Tables, Closed}
use types.Logic.{Logic, sem}
use types.Kit.{‵, raw, ◌⊛◌, ◌$◌, ◌∵◌, !, qed, by, keep, drop, join, split, fsplit, fjoin, suffices, done}
use contract.Monad.{fact}
use contract.Running.{Running, MachineTables, tables, tables_of}
use denote.Exit.{yes, Last, left}
use denote.RattleType.{RattleType}
use denote.Signature.{plain}
use denote.Steps.{nothing}
use denote.Triple.Clauses.{Ended, Clauses, closing}
use denote.Triple.Spec.{Meets}
use denote.Triple.Walked.{says, Stays, stay_dropped, walk_of, ends_at, Goes-dropped}
use Rattle.std.proofs.raw_atomic.Walks.{proved_at}

abbrev pub machine : {M : Type 1} {𝓤 : Ura M} (𝓛 : Logic 𝓤) (𝓜 : Model 𝓤 𝓛.H)
    → Running 𝓤 𝓛.H 𝓜 → MachineTables 𝓤 𝓛.H 𝓜
machine {𝓤 = 𝓤} 𝓛 𝓜 𝓡 = tables 𝓤 𝓛.H 𝓜 𝓡 𝓡.env

-- the type of the parameter, the type of the result, and what the `ensures` says
module _ (A B : RattleType) (Ensures : A.Denot → B.Denot → Type 0) where
  abbrev ended : Ended
  ended = record {
    signature = record { lifetimes = 0; outlives = []; params = plain (λ _. A) ∷ []; result = plain (λ _. B) };
    kept = (yes, tt);
  }

  abbrev stayed : Stays ended.signature.params ended.kept
  stayed = (stay_dropped (plain (λ _. A)) yes, tt)

  module _ {M : Type 1} {𝓤 : Ura M} (𝓛 : Logic 𝓤) where
    abbrev clauses : Clauses 𝓤 ended
    clauses κs a = record { ghost = Unit {0}; requires = λ g. emp 𝓤; ensures = λ g r e. fact 𝓤 (Ensures a.0 r) }

    -- the body ends in any `Post` that follows from what the result owns
    abbrev pub Walk : Tables 𝓤 𝓛.H → Fn → Type 2
    Walk 𝓣 fn = (x : A.Denot) (vs : List Val) (Post : Val → SProp 𝓤)
        → ((w : Val) (r : B.Denot) → Ensures x r → ent 𝓤 (sem 𝓛 (B.own_val r (w ∷ []))) (Post w))
        → ent 𝓤 (sem 𝓛 (A.own_val x vs)) (WpFn 𝓤 𝓛.H 𝓣.C 𝓣.Λ fn (vs ++ []) Post)

    module _ (𝓜 : Model 𝓤 𝓛.H) (𝓡 : Running 𝓤 𝓛.H 𝓜) where
      abbrev pub Met : Callee → Fn → Type 2
      Met key fn = Closed 𝓤 𝓛.H (machine 𝓛 𝓜 𝓡).C (machine 𝓛 𝓜 𝓡).Λ key fn
          → Meets 𝓛 ended.signature ((machine 𝓛 𝓜 𝓡).C key) (closing 𝓛 ended clauses)

      -- `last` and `silent` say that a value that was passed has nothing to say at exit
      pub met_by : (last : (x : A.Denot) → Last (A.exit yes) x)
          → (silent : (x : A.Denot) (f : Last (A.exit yes) x) → left (A.exit yes) x f ≡ ftrue)
          → (key : Callee) (fn : Fn) → Walk (tables_of 𝓤 𝓛.H 𝓜 (machine 𝓛 𝓜 𝓡)) fn → Met key fn
      unfolding tables_of
      met_by last silent key fn walk closed =
          let goes = Goes-dropped 𝓛 0 (plain (λ _. A)) yes (λ κs. silent) in
          proved_at 𝓛 ended stayed clauses 𝓜 𝓡 (goes, tt) key fn closed (λ z _.
          qed 𝓛 ((‵ ftrue ⊛ ‵ (fsep (A.own_val z.0.3.0 z.0.4.0) ftrue)) ∷ raw (emp 𝓤) ∷ []) ∵
          split ! $ drop ! $ fsplit ! $ keep ! (0 ∷ []) $
          by ! (walk z.0.3.0 z.0.4.0 ((walk_of 𝓛 ended stayed clauses).post z) (λ w r good.
          qed 𝓛 (‵ (B.own_val r (w ∷ [])) ∷ []) ∵
          suffices ! _ (ends_at 𝓛 ended stayed clauses z w r (last z.0.3.0, tt) (tt, tt)) $ says ! good $
          nothing ! $ nothing ! $ fjoin ! $ join ! $ nothing ! $ join ! $ done !)))
