-- The runs around free positions, and the run that results from placing chunks there.
use Rattle.std.proofs.Common.{arith, ◌≡◌, ◌+◌, ◌<◌, ◌≤◌, ℕ, Bool, true, false, List, [], ◌∷◌, ◌++◌, nat_eq, nat_lt, length, refl, sym, ap, subst, ◌∙◌, append_assoc}
use Rattle.std.specs.Prelude.{All, Option, None, Some, IfSome, option_to_list}
use Rattle.std.specs.List.{list_any}
use Rattle.std.proofs.lemmas.List.{length-append}
use Rattle.std.proofs.lemmas.List.Elements.{All-nil, All-cons, All-head, All-tail, All-append, All-weaker}
use Rattle.xet_roots.specs.Groups.{Node}
use Rattle.chunk_ranges.specs.declared.chunk_range.ChunkRange as chunk_range
use Rattle.upload_session.specs.declared.runs.Run.{Run}
use Rattle.upload_session.specs.Session.{Placed, PlacedRun, placed_from, end_of, first_of, meet, meets, place, size_of_runs, AreApart, AreFrom, AreOf, IsRangeJoined, IsRunOf, StandFor}
use Rattle.upload_session.proofs.Placing.{placed_from-append, placed_from-from, placed_from-below, place-front, place-back, place-from}
use Rattle.upload_session.proofs.Positions.{neither, holds_of_last}

-- what is kept of a run, by the position after its last one and by its range
abbrev pub run_to : {C : Type 0} → ℕ → C → Run C
run_to end range = record { end = end; range = range }

-- one more run in front of some, where there is one
abbrev pub with_run : {C : Type 0} → Option (PlacedRun C) → List (PlacedRun C) → List (PlacedRun C)
with_run None runs = runs
with_run (Some run) runs = run ∷ runs

pub with_run-list : {C : Type 0} (run : Option (PlacedRun C)) (runs : List (PlacedRun C)) → with_run run runs ≡ option_to_list run ++ runs
with_run-list None runs = refl
with_run-list (Some run) runs = refl

-- the runs around adjacent positions that are free: those that end before them, the one that ends just before them, the one
-- that begins just after them, and those that begin farther on
pub record Around {C : Type 0} (first after : ℕ) (runs : List (PlacedRun C)) : Type 0 where
  pub front : List (PlacedRun C)
  pub previous : Option (PlacedRun C)
  pub next : Option (PlacedRun C)
  pub back : List (PlacedRun C)
  pub is : runs ≡ front ++ with_run previous (with_run next back)
  pub fronts : All (λ (run : PlacedRun C). (run.0 < run.1.end) × (run.1.end < first)) front
  pub apart : IfSome previous (λ run. All (λ (other : PlacedRun C). other.0 < run.0) front)
  pub previous_ends : IfSome previous (λ run. (run.0 < first) × (run.1.end ≡ first))
  pub next_begins : IfSome next (λ run. run.0 ≡ after)
  pub backs : All (λ (run : PlacedRun C). after < run.0) back

module _ {C : Type 0} where
  -- where runs begin at a bound or after it
  abbrev BeginFrom : ℕ → List (PlacedRun C) → Type 0
  BeginFrom bound runs = All (λ (run : PlacedRun C). bound ≤ run.0) runs

  module _ (first count : ℕ) where
    -- runs that begin after the first of the positions begin after all of them
    clear : (runs : List (PlacedRun C)) → AreApart runs → meet runs first count ≡ false → BeginFrom first runs → BeginFrom (first + count) runs
    clear [] apart free from = All-nil (λ (run : PlacedRun C). first + count ≤ run.0)
    clear (run ∷ runs) (longer, far, apart) free from =
        let begins = All-head (λ (run : PlacedRun C). first ≤ run.0) run runs from in
        let (one, others_free) = neither (meets first count run) (list_any (meets first count) runs) free in
        All-cons (λ (run : PlacedRun C). first + count ≤ run.0) run runs (grind (arith, one, begins, longer))
        (clear runs apart others_free (All-tail (λ (run : PlacedRun C). first ≤ run.0) run runs from))

    -- the run that begins just after them, and the others
    record Following (runs : List (PlacedRun C)) : Type 0 where
      next : Option (PlacedRun C)
      back : List (PlacedRun C)
      is : runs ≡ with_run next back
      next_begins : IfSome next (λ run. run.0 ≡ first + count)
      backs : All (λ (run : PlacedRun C). first + count < run.0) back

    following : (runs : List (PlacedRun C)) → AreApart runs → BeginFrom (first + count) runs → Following runs
    following [] apart from = record {
      next = None;
      back = [];
      is = refl;
      next_begins = tt;
      backs = All-nil (λ (run : PlacedRun C). first + count < run.0);
    }
    following (run ∷ runs) (longer, far, apart) from = choose (nat_eq run.0 (first + count)) refl
      where
        begins : first + count ≤ run.0
        begins = All-head (λ (run : PlacedRun C). first + count ≤ run.0) run runs from

        others_after : All (λ (next : PlacedRun C). first + count < next.0) runs
        others_after = All-weaker (λ (next : PlacedRun C). run.1.end < next.0) (λ (next : PlacedRun C). first + count < next.0)
            (λ next h. omega (arith, h, begins, longer)) runs far

        choose : (b : Bool) → nat_eq run.0 (first + count) ≡ b → Following (run ∷ runs)
        choose true there = record {
          next = Some run;
          back = runs;
          is = refl;
          next_begins = grind (arith, there);
          backs = others_after;
        }
        choose false farther = record {
          next = None;
          back = run ∷ runs;
          is = refl;
          next_begins = tt;
          backs = All-cons (λ (run : PlacedRun C). first + count < run.0) run runs (grind (arith, farther, begins)) others_after;
        }

    -- one more run in front begins before the previous one, too
    before : (run : PlacedRun C) (front : List (PlacedRun C)) (previous : Option (PlacedRun C)) (others : List (PlacedRun C)) → run.0 < run.1.end
        → All (λ (next : PlacedRun C). run.1.end < next.0) (front ++ with_run previous others)
        → IfSome previous (λ next. All (λ (other : PlacedRun C). other.0 < next.0) front)
        → IfSome previous (λ next. All (λ (other : PlacedRun C). other.0 < next.0) (run ∷ front))
    before run front None others longer far apart = tt
    before run front (Some next) others longer far apart =
        let farther = holds_of_last (λ (next : PlacedRun C). run.1.end < next.0) front next others far in
        All-cons (λ (other : PlacedRun C). other.0 < next.0) run front (omega (arith, longer, farther)) apart

    pub around : (runs : List (PlacedRun C)) → AreApart runs → meet runs first count ≡ false → Around first (first + count) runs
    around [] apart free = record {
      front = [];
      previous = None;
      next = None;
      back = [];
      is = refl;
      fronts = All-nil (λ (run : PlacedRun C). (run.0 < run.1.end) × (run.1.end < first));
      apart = tt;
      previous_ends = tt;
      next_begins = tt;
      backs = All-nil (λ (run : PlacedRun C). first + count < run.0);
    }
    around (run ∷ runs) (longer, far, apart) free =
        choose (around runs apart (neither (meets first count run) (list_any (meets first count) runs) free).1)
        (nat_lt run.1.end first) (nat_lt first run.1.end) refl refl
      where
        choose : Around first (first + count) runs → (before after : Bool) → nat_lt run.1.end first ≡ before → nat_lt first run.1.end ≡ after
            → Around first (first + count) (run ∷ runs)
        choose more true after ends _ =
            record {
              front = run ∷ more.front;
              previous = more.previous;
              next = more.next;
              back = more.back;
              is = ap (λ (l : List (PlacedRun C)). run ∷ l) more.is;
              fronts = All-cons (λ (run : PlacedRun C). (run.0 < run.1.end) × (run.1.end < first)) run more.front
                  (longer, grind (arith, ends)) more.fronts;
              apart = before run more.front more.previous (with_run more.next more.back) longer
                  (subst (λ (l : List (PlacedRun C)). All (λ (next : PlacedRun C). run.1.end < next.0) l) more.is far) more.apart;
              previous_ends = more.previous_ends;
              next_begins = more.next_begins;
              backs = more.backs;
            }
        choose _ false false low high =
            let there : run.1.end ≡ first = grind (arith, low, high) in
            let from = All-weaker (λ (next : PlacedRun C). run.1.end < next.0) (λ (next : PlacedRun C). first ≤ next.0) (λ next h. omega (arith, h, there)) runs far in
            let more = following runs apart (clear runs apart (neither (meets first count run) (list_any (meets first count) runs) free).1 from) in
            record {
              front = [];
              previous = Some run;
              next = more.next;
              back = more.back;
              is = ap (λ (l : List (PlacedRun C)). run ∷ l) more.is;
              fronts = All-nil (λ (run : PlacedRun C). (run.0 < run.1.end) × (run.1.end < first));
              apart = All-nil (λ (other : PlacedRun C). other.0 < run.0);
              previous_ends = (omega (arith, longer, there), there);
              next_begins = more.next_begins;
              backs = more.backs;
            }
        choose _ false true low high =
            let one = (neither (meets first count run) (list_any (meets first count) runs) free).0 in
            let begins : first + count ≤ run.0 = grind (arith, one, high) in
            let from = All-cons (λ (run : PlacedRun C). first + count ≤ run.0) run runs begins
            (All-weaker (λ (next : PlacedRun C). run.1.end < next.0) (λ (next : PlacedRun C). first + count ≤ next.0) (λ next h. omega (arith, h, begins, longer)) runs far) in
            let more = following (run ∷ runs) (longer, far, apart) from in
            record {
              front = [];
              previous = None;
              next = more.next;
              back = more.back;
              is = more.is;
              fronts = All-nil (λ (run : PlacedRun C). (run.0 < run.1.end) × (run.1.end < first));
              apart = tt;
              previous_ends = tt;
              next_begins = more.next_begins;
              backs = more.backs;
            }

-- ---- the run that results

module _ {C : Type 0} (first after : ℕ) (ahead : first < after) (range : C) where
  -- the run between others
  abbrev pub between : Option (PlacedRun C) → Option (PlacedRun C) → PlacedRun C
  between previous next = (first_of previous first, run_to (end_of next after) range)

  joined-apart : (previous next : Option (PlacedRun C)) (back : List (PlacedRun C))
      → IfSome previous (λ run. (run.0 < first) × (run.1.end ≡ first)) → IfSome next (λ run. run.0 ≡ after)
      → All (λ (run : PlacedRun C). after < run.0) back → AreApart (with_run previous (with_run next back)) → AreApart (between previous next ∷ back)
  joined-apart None None back begun there backs apart = (ahead, backs, apart)
  joined-apart None (Some next) back begun there backs (longer, far, apart) = (omega (arith, ahead, there, longer), far, apart)
  joined-apart (Some last) None back begun there backs (longer, far, apart) = (omega (arith, begun.0, ahead), backs, apart)
  joined-apart (Some last) (Some next) back begun there backs (longer, far, (longer_next, far_next, apart)) =
      (omega (arith, begun.0, ahead, there, longer_next), far_next, apart)

  -- what ends before all that was there ends before what is there then
  before-joined : (end : ℕ) (previous next : Option (PlacedRun C)) (back : List (PlacedRun C)) → end < first
      → All (λ (run : PlacedRun C). end < run.0) (with_run previous (with_run next back)) → All (λ (run : PlacedRun C). end < run.0) (between previous next ∷ back)
  before-joined end None None back low far = All-cons (λ (run : PlacedRun C). end < run.0) (between None None) back low far
  before-joined end None (Some next) back low far =
      All-cons (λ (run : PlacedRun C). end < run.0) (between None (Some next)) back low (All-tail (λ (run : PlacedRun C). end < run.0) next back far)
  before-joined end (Some last) None back low far =
      All-cons (λ (run : PlacedRun C). end < run.0) (between (Some last) None) back (All-head (λ (run : PlacedRun C). end < run.0) last back far)
      (All-tail (λ (run : PlacedRun C). end < run.0) last back far)
  before-joined end (Some last) (Some next) back low far =
      All-cons (λ (run : PlacedRun C). end < run.0) (between (Some last) (Some next)) back (All-head (λ (run : PlacedRun C). end < run.0) last (next ∷ back) far)
      (All-tail (λ (run : PlacedRun C). end < run.0) next back (All-tail (λ (run : PlacedRun C). end < run.0) last (next ∷ back) far))

  before-all : (end : ℕ) (front : List (PlacedRun C)) (previous next : Option (PlacedRun C)) (back : List (PlacedRun C)) → end < first
      → All (λ (run : PlacedRun C). end < run.0) (front ++ with_run previous (with_run next back))
      → All (λ (run : PlacedRun C). end < run.0) (front ++ between previous next ∷ back)
  before-all end [] previous next back low far = before-joined end previous next back low far
  before-all end (run ∷ front) previous next back low far =
      All-cons (λ (run : PlacedRun C). end < run.0) run (front ++ between previous next ∷ back)
      (All-head (λ (run : PlacedRun C). end < run.0) run (front ++ with_run previous (with_run next back)) far)
      (before-all end front previous next back low (All-tail (λ (run : PlacedRun C). end < run.0) run (front ++ with_run previous (with_run next back)) far))

  all-apart : (front : List (PlacedRun C)) (previous next : Option (PlacedRun C)) (back : List (PlacedRun C))
      → All (λ (run : PlacedRun C). (run.0 < run.1.end) × (run.1.end < first)) front
      → IfSome previous (λ run. (run.0 < first) × (run.1.end ≡ first)) → IfSome next (λ run. run.0 ≡ after)
      → All (λ (run : PlacedRun C). after < run.0) back → AreApart (front ++ with_run previous (with_run next back))
      → AreApart (front ++ between previous next ∷ back)
  all-apart [] previous next back fronts begun there backs apart = joined-apart previous next back begun there backs apart
  all-apart (run ∷ front) previous next back fronts begun there backs (longer, far, apart) =
      let ended = All-head (λ (run : PlacedRun C). (run.0 < run.1.end) × (run.1.end < first)) run front fronts in (
        longer,
        before-all run.1.end front previous next back ended.1 far,
        all-apart front previous next back (All-tail (λ (run : PlacedRun C). (run.0 < run.1.end) × (run.1.end < first)) run front fronts) begun there backs apart,
      )

  pub around-apart : (runs : List (PlacedRun C)) (at : Around first after runs) → AreApart runs
      → AreApart (at.front ++ between at.previous at.next ∷ at.back)
  around-apart runs at apart =
      all-apart at.front at.previous at.next at.back at.fronts at.previous_ends at.next_begins at.backs (subst AreApart at.is apart)

-- ---- the chunks that the runs stand for

module _ {C A : Type 0} (kind : chunk_range.Ghosts C A) where
  abbrev Stand : List (PlacedRun C) → List Placed → Type 0
  Stand = StandFor kind

  placed-from : (bound : ℕ) (runs : List (PlacedRun C)) (placed : List Placed) → Stand runs placed → BeginFrom bound runs → AreFrom bound placed
  placed-from bound [] placed none all = subst (λ (l : List Placed). AreFrom bound l) (sym none) (All-nil (λ (p : Placed). bound ≤ p.0))
  placed-from bound (run ∷ runs) placed (chunks, others, is, of_run, apart, rest) all =
      subst (λ (l : List Placed). AreFrom bound l) (sym is)
      (All-append (λ (p : Placed). bound ≤ p.0) (placed_from run.0 chunks) others
      (placed_from-from bound run.0 chunks (All-head (λ (run : PlacedRun C). bound ≤ run.0) run runs all))
      (placed-from bound runs others rest (All-tail (λ (run : PlacedRun C). bound ≤ run.0) run runs all)))

  module _ (first : ℕ) (chunks : List Node) where
    -- the runs in front stay
    placed-front : (front rest new : List (PlacedRun C)) → All (λ (run : PlacedRun C). (run.0 < run.1.end) × (run.1.end < first)) front
        → ((others : List Placed) → Stand rest others → Stand new (place others first chunks))
        → (placed : List Placed) → Stand (front ++ rest) placed → Stand (front ++ new) (place placed first chunks)
    placed-front [] rest new fronts at placed stand = at placed stand
    placed-front (run ∷ front) rest new fronts at placed (some, others, is, of_run, apart, stand) =
        let ended = All-head (λ (run : PlacedRun C). (run.0 < run.1.end) × (run.1.end < first)) run front fronts in (
          some,
          place others first chunks,
          ap (λ l. place l first chunks) is
              ∙ place-front first (placed_from run.0 some) others chunks (placed_from-below first run.0 some (omega (arith, ended.1, of_run.1))),
          of_run,
          place-from first (run.1.end + 1) others chunks (omega (arith, ended.1)) apart,
          placed-front front rest new (All-tail (λ (run : PlacedRun C). (run.0 < run.1.end) × (run.1.end < first)) run front fronts) at others stand,
        )

    -- the run of the chunks between those that were there
    placed-run : (front back : List Node) (rest : List Placed) (run : PlacedRun C) (runs : List (PlacedRun C))
        → run.0 + length front ≡ first → IsRunOf kind (front ++ (chunks ++ back)) run
        → AreFrom (run.1.end + 1) rest → Stand runs rest
        → Stand (run ∷ runs) (place (placed_from run.0 front ++ (placed_from (first + length chunks) back ++ rest)) first chunks)
    placed-run front back rest run runs there of_run apart stand =
        let after = first + length chunks in
        let others = placed_from after back ++ rest in
        let from = All-append (λ (p : Placed). first ≤ p.0) (placed_from after back) rest
        (placed_from-from first after back (omega arith))
        (All-weaker (λ (p : Placed). run.1.end + 1 ≤ p.0) (λ (p : Placed). first ≤ p.0)
        (λ p h. let long = length-append front (chunks ++ back) in let ends = of_run.1 in omega (arith, h, ends, long, there)) rest apart) in
        let all : placed_from run.0 (front ++ (chunks ++ back)) ≡ placed_from run.0 front ++ (placed_from first chunks ++ placed_from after back) =
        placed_from-append run.0 front (chunks ++ back)
        ∙ ap (λ n. placed_from run.0 front ++ placed_from n (chunks ++ back)) there
        ∙ ap (λ l. placed_from run.0 front ++ l) (placed_from-append first chunks back) in (
          front ++ (chunks ++ back),
          rest,
          place-front first (placed_from run.0 front) others chunks (placed_from-below first run.0 front (omega (arith, there)))
              ∙ ap (λ l. placed_from run.0 front ++ l) (place-back first others chunks from ∙ sym (append_assoc (placed_from first chunks) (placed_from after back) rest))
              ∙ sym (append_assoc (placed_from run.0 front) (placed_from first chunks ++ placed_from after back) rest)
              ∙ ap (λ l. l ++ rest) (sym all),
          of_run,
          apart,
          stand,
        )

    -- the range of the run stands for the chunks between those that were there
    abbrev IsAmong : Option (PlacedRun C) → Option (PlacedRun C) → C → Type 0
    IsAmong previous next range =
        ((front back : List Node) → AreOf kind previous front → AreOf kind next back → kind.stands range (front ++ (chunks ++ back)))
        × (kind.start range ≡ false) × (kind.end range ≡ false)

    module _ (some : 0 < length chunks) where
      placed-between : (previous next : Option (PlacedRun C)) (runs : List (PlacedRun C)) (range : C) (others : List Placed)
          → IfSome previous (λ run. (run.0 < first) × (run.1.end ≡ first)) → IfSome next (λ run. run.0 ≡ first + length chunks)
          → All (λ (run : PlacedRun C). first + length chunks < run.0) runs → IsAmong previous next range
          → Stand (with_run previous (with_run next runs)) others
          → Stand ((first_of previous first, run_to (end_of next (first + length chunks)) range) ∷ runs) (place others first chunks)
      placed-between None None runs range others previous_ends next_begins backs (meant, open_start, open_end) stand =
          let run : PlacedRun C = (first, run_to (first + length chunks) range) in
          placed-run [] [] others run runs (omega arith)
          (omega (arith, some, length-append chunks []), omega (arith, length-append chunks []), meant [] [] refl refl, open_start, open_end)
          (placed-from (first + length chunks + 1) runs others stand (All-weaker (λ (run : PlacedRun C). first + length chunks < run.0) (λ (run : PlacedRun C). first + length chunks + 1 ≤ run.0) (λ run h. omega (arith, h)) runs backs))
          stand
      placed-between None (Some next) runs range others previous_ends there backs (meant, open_start, open_end) (back, rest, is, of_next, apart, stand) =
          let run : PlacedRun C = (first, run_to next.1.end range) in
          subst (λ l. Stand (run ∷ runs) (place l first chunks)) (sym (is ∙ ap (λ n. placed_from n back ++ rest) there))
          (placed-run [] back rest run runs (omega arith)
          (omega (arith, some, length-append chunks back), omega (arith, length-append chunks back, of_next.1, there), meant [] back refl of_next.2, open_start, open_end)
          apart stand)
      placed-between (Some last) None runs range others (begun, ended) next_begins backs (meant, open_start, open_end) (front, rest, is, of_last, apart, stand) =
          let run : PlacedRun C = (last.0, run_to (first + length chunks) range) in
          subst (λ l. Stand (run ∷ runs) (place l first chunks)) (sym is)
          (placed-run front [] rest run runs (omega (arith, of_last.1, ended))
          (omega (arith, some, length-append front (chunks ++ []), length-append chunks []), omega (arith, length-append front (chunks ++ []), length-append chunks [], of_last.1, ended), meant front [] of_last.2 refl, open_start, open_end)
          (placed-from (first + length chunks + 1) runs rest stand (All-weaker (λ (run : PlacedRun C). first + length chunks < run.0) (λ (run : PlacedRun C). first + length chunks + 1 ≤ run.0) (λ run h. omega (arith, h)) runs backs))
          stand)
      placed-between (Some last) (Some next) runs range others (begun, ended) there backs (meant, open_start, open_end) (front, more, is, of_last, _, (back, rest, is_next, of_next, apart, stand)) =
          let run : PlacedRun C = (last.0, run_to next.1.end range) in
          subst (λ l. Stand (run ∷ runs) (place l first chunks)) (sym (is ∙ ap (λ l. placed_from last.0 front ++ l) (is_next ∙ ap (λ n. placed_from n back ++ rest) there)))
          (placed-run front back rest run runs (omega (arith, of_last.1, ended))
          (omega (arith, some, length-append front (chunks ++ back), length-append chunks back), omega (arith, length-append front (chunks ++ back), length-append chunks back, of_last.1, ended, of_next.1, there), meant front back of_last.2 of_next.2, open_start, open_end)
          apart stand)

      placed-all : (runs : List (PlacedRun C)) (at : Around first (first + length chunks) runs) (range : C) → IsAmong at.previous at.next range
          → (placed : List Placed) → Stand runs placed
          → Stand (at.front ++ (first_of at.previous first, run_to (end_of at.next (first + length chunks)) range) ∷ at.back) (place placed first chunks)
      placed-all runs at range among placed stand =
          placed-front at.front (with_run at.previous (with_run at.next at.back)) ((first_of at.previous first, run_to (end_of at.next (first + length chunks)) range) ∷ at.back) at.fronts
          (λ others. placed-between at.previous at.next at.back range others at.previous_ends at.next_begins at.backs among)
          placed (subst (λ l. Stand l placed) at.is stand)

  module _ (first count : ℕ) (given : C) where
    -- the range of the run stands for the chunks of the given one between those that were there, and has the sizes of all
    abbrev pub IsBetween : Option (PlacedRun C) → Option (PlacedRun C) → C → Type 0
    IsBetween previous next range =
        ((front chunks back : List Node) → AreOf kind previous front → kind.stands given chunks → AreOf kind next back
        → kind.stands range (front ++ (chunks ++ back)))
        × (kind.start range ≡ false) × (kind.end range ≡ false)
        × (kind.total range ≡ size_of_runs kind (option_to_list previous) + kind.total given + size_of_runs kind (option_to_list next))

    module _ (some : 0 < count) where
      pub placed-around : (runs : List (PlacedRun C)) (at : Around first (first + count) runs) (range : C) → IsBetween at.previous at.next range
          → (chunks : List Node) (placed : List Placed) → length chunks ≡ count → kind.stands given chunks → Stand runs placed
          → Stand (at.front ++ (first_of at.previous first, run_to (end_of at.next (first + count)) range) ∷ at.back) (place placed first chunks)
      placed-around runs at range (meant, open_start, open_end, _) chunks placed long stands stand =
          subst (λ n. (at : Around first (first + n) runs) → IsAmong first chunks at.previous at.next range
          → Stand (at.front ++ (first_of at.previous first, run_to (end_of at.next (first + n)) range) ∷ at.back) (place placed first chunks)) long
          (λ at among. placed-all first chunks (omega (arith, some, long)) runs at range among placed stand)
          at ((λ front back keeps_front keeps_back. meant front chunks back keeps_front stands keeps_back), open_start, open_end)

      pub joined-around : (runs : List (PlacedRun C)) (at : Around first (first + count) runs) (range : C) → IsBetween at.previous at.next range
          → IsRangeJoined kind runs first count given (at.front ++ (first_of at.previous first, run_to (end_of at.next (first + count)) range) ∷ at.back)
      joined-around runs at range (meant, open_start, open_end, size) = record {
        front = at.front;
        previous = at.previous;
        next = at.next;
        back = at.back;
        run = (first_of at.previous first, run_to (end_of at.next (first + count)) range);
        were = at.is
            ∙ ap (λ l. at.front ++ l) (with_run-list at.previous (with_run at.next at.back) ∙ ap (λ l. option_to_list at.previous ++ l) (with_run-list at.next at.back))
            ∙ sym (append_assoc at.front (option_to_list at.previous) (option_to_list at.next ++ at.back))
            ∙ sym (append_assoc (at.front ++ option_to_list at.previous) (option_to_list at.next) at.back);
        are = refl;
        front_ends = All-weaker (λ (run : PlacedRun C). (run.0 < run.1.end) × (run.1.end < first)) (λ (run : PlacedRun C). run.1.end < first) (λ run h. h.1) at.front at.fronts;
        previous_ends = ended at.previous at.previous_ends;
        next_begins = at.next_begins;
        back_begins = at.backs;
        begins = refl;
        ends = refl;
        stands = λ a chunks b front means back. subst (kind.stands range) (sym (append_assoc a chunks b)) (meant a chunks b front means back);
        no_start = open_start;
        no_end = open_end;
        size = size;
      }
        where
          ended : (previous : Option (PlacedRun C)) → IfSome previous (λ run. (run.0 < first) × (run.1.end ≡ first)) → IfSome previous (λ run. run.1.end ≡ first)
          ended None h = tt
          ended (Some run) h = h.1
