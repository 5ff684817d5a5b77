-- Joining all runs of one list with another.
use Rattle.std.proofs.Common.{arith, ◌≡◌, ◌+◌, ◌-◌, ◌<◌, ◌≤◌, ℕ, Bool, true, false, List, [], ◌∷◌, ◌++◌, ◌&&◌, ◌||◌, nat_eq, nat_lt, length, refl, sym, ap, subst, ◌∙◌}
use Rattle.std.specs.Prelude.{All, Option, None, Some, IfSome, option_to_list}
use Rattle.std.specs.List.{list_any}
use Rattle.std.proofs.lemmas.Bool.{true≢false}
use Rattle.std.proofs.lemmas.List.Elements.{All-nil, All-cons, All-head, All-tail, All-weaker}
use Rattle.std.proofs.lemmas.List.Folds.{list_any-append}
use Rattle.std.proofs.lemmas.List.Sums.{sum_by-append, sum_by-cons}
use Rattle.std.specs.Map.{values_of}
use Rattle.xet_roots.specs.Groups.{Node}
use Rattle.chunk_ranges.specs.declared.chunk_range.ChunkRange as chunk_range
use Rattle.upload_session.specs.declared.runs.Run.{Run}
use Rattle.upload_session.specs.Gaps.{IsFirstTaken}
use Rattle.upload_session.specs.Session.{Placed, PlacedRun, placed_from, place, place_each, end_of, first_of, is_taken, meet, meets, overlaps, size_of_runs, AreApart, AreBothAt, AreDisjoint, AreFree, AreMerged, HaveBoth, StandFor, StandForBoth}
use Rattle.upload_session.specs.Steps.Neighbours.{TakeIn}
use Rattle.upload_session.specs.Steps.OpenRuns.{IsOpen, AreOpen, sizes_of}
use Rattle.upload_session.proofs.PlacingEach.{all-both, each-run}
use Rattle.upload_session.proofs.Positions.{both, meet_overlaps, taken-runs}
use Rattle.upload_session.proofs.Ranges.{free-within}

-- each of some runs has a position
abbrev HasPosition : {C : Type 0} → PlacedRun C → Type 0
HasPosition run = run.0 < run.1.end

pub have_positions : {C : Type 0} (runs : List (PlacedRun C)) → AreApart runs → All (λ (run : PlacedRun C). HasPosition run) runs
have_positions {C} [] apart = All-nil (λ (run : PlacedRun C). HasPosition run)
have_positions {C} (run ∷ runs) (longer, far, apart) = All-cons (λ (run : PlacedRun C). HasPosition run) run runs longer (have_positions runs apart)

of-front : {X : Type 0} (P : X → Type 0) (front back : List X) → All P (front ++ back) → All P front
of-front P [] back all = All-nil P
of-front P (x ∷ front) back all = All-cons P x front (All-head P x (front ++ back) all) (of-front P front back (All-tail P x (front ++ back) all))

of-back : {X : Type 0} (P : X → Type 0) (front back : List X) → All P (front ++ back) → All P back
of-back P [] back all = all
of-back P (x ∷ front) back all = of-back P front back (All-tail P x (front ++ back) all)

regroup : (f p n r b : Bool) → (f || (((p || n) || r) || b)) ≡ ((((f || p) || n) || b) || r)
regroup true p n r b = refl
regroup false true n r b = refl
regroup false false true r b = refl
regroup false false false true true = refl
regroup false false false true false = refl
regroup false false false false true = refl
regroup false false false false false = refl

or-true : (b : Bool) → (b || true) ≡ true
or-true true = refl
or-true false = refl

-- a position that both have isn't free
pub not_free : {C : Type 0} (runs others : List (PlacedRun C)) (position : ℕ) → AreFree runs others → AreBothAt runs others position → ⊥
not_free runs [] position free (_, there) = true≢false (sym there)
not_free {C} runs (run ∷ others) position free (here, there) = choose (not_free runs others position) (meets position 1 run) refl
  where
    choose : (AreFree runs others → AreBothAt runs others position → ⊥) → (b : Bool) → meets position 1 run ≡ b → ⊥
    choose rest true has =
        let one = All-head (λ (run : PlacedRun C). meet runs run.0 (run.1.end - run.0) ≡ false) run others free in
        true≢false (sym here ∙ free-within runs run.0 (run.1.end - run.0) position one (grind (arith, has)) (grind (arith, has)))
    choose rest false other =
        rest (All-tail (λ (run : PlacedRun C). meet runs run.0 (run.1.end - run.0) ≡ false) run others free)
        (here, sym (ap (λ b. b || meet others position 1) other) ∙ there)

each_taken : (placed : List Placed) → All (λ (p : Placed). is_taken placed p.0 ≡ true) placed
each_taken [] = All-nil (λ (p : Placed). is_taken [] p.0 ≡ true)
each_taken (q ∷ placed) =
    All-cons (λ (p : Placed). is_taken (q ∷ placed) p.0 ≡ true) q placed (ap (λ b. b || is_taken placed q.0) {y = true} (grind arith))
    (All-weaker (λ (p : Placed). is_taken placed p.0 ≡ true) (λ (p : Placed). is_taken (q ∷ placed) p.0 ≡ true)
    (λ p h. ap (λ b. nat_eq q.0 p.0 || b) h ∙ or-true (nat_eq q.0 p.0)) placed (each_taken placed))

-- runs that share no position stand for chunks at different positions
pub disjoint-free : {C A : Type 0} (kind : chunk_range.Ghosts C A) (runs others : List (PlacedRun C)) (placed more : List Placed)
    → StandFor kind runs placed → StandFor kind others more → AreFree runs others → AreDisjoint placed more
disjoint-free kind runs others placed more stand stands free =
    All-weaker (λ (p : Placed). is_taken placed p.0 ≡ true) (λ (p : Placed). is_taken more p.0 ≡ false)
    (λ p h. choose p h (is_taken more p.0) refl) placed (each_taken placed)
  where
    choose : (p : Placed) → is_taken placed p.0 ≡ true → (b : Bool) → is_taken more p.0 ≡ b → is_taken more p.0 ≡ false
    choose p h true taken =
        absurd (not_free runs others p.0 free (sym (taken-runs kind runs placed p.0 stand) ∙ h, sym (taken-runs kind others more p.0 stands) ∙ taken))
    choose p h false is = is

module _ {C A : Type 0} (kind : chunk_range.Ghosts C A) where
  abbrev size : PlacedRun C → ℕ
  size run = kind.total run.1.range

  pub sizes-same : (runs : List (PlacedRun C)) → sizes_of kind runs ≡ size_of_runs kind runs
  sizes-same [] = refl
  sizes-same (run ∷ runs) =
      let rest = sizes-same runs in
      omega (arith, rest, sum_by-cons size run runs, sum_by-cons (λ (run : Run C). kind.total run.range) run.1 (values_of runs))

  module _ (old new : List (PlacedRun C)) (first count bytes : ℕ) (meant : List Node → Type 0) (merged : AreMerged kind old first count bytes meant new) where
    pub merged-size : size_of_runs kind new ≡ size_of_runs kind old + bytes
    merged-size =
        omega (
          arith,
          merged.size,
          ap (size_of_runs kind) merged.were,
          ap (size_of_runs kind) merged.are,
          sum_by-append size merged.front (merged.run ∷ merged.back),
          sum_by-cons size merged.run merged.back,
          sum_by-append size ((merged.front ++ option_to_list merged.previous) ++ option_to_list merged.next) merged.back,
          sum_by-append size (merged.front ++ option_to_list merged.previous) (option_to_list merged.next),
          sum_by-append size merged.front (option_to_list merged.previous),
        )

    module _ (apart : AreApart old) (some : 0 < count) (position many : ℕ) (more : 0 < many) where
      abbrev met : List (PlacedRun C) → Bool
      met = list_any (meets position many)

      abbrev of_range : Bool
      of_range = nat_lt position (first + count) && nat_lt first (position + many)

      all-long : All (λ (run : PlacedRun C). HasPosition run) (((merged.front ++ option_to_list merged.previous) ++ option_to_list merged.next) ++ merged.back)
      all-long = subst (λ (runs : List (PlacedRun C)). All (λ (run : PlacedRun C). HasPosition run) runs) merged.were (have_positions old apart)

      long-two : All (λ (run : PlacedRun C). HasPosition run) ((merged.front ++ option_to_list merged.previous) ++ option_to_list merged.next)
      long-two = of-front (λ (run : PlacedRun C). HasPosition run) ((merged.front ++ option_to_list merged.previous) ++ option_to_list merged.next) merged.back all-long

      long-next : All (λ (run : PlacedRun C). HasPosition run) (option_to_list merged.next)
      long-next = of-back (λ (run : PlacedRun C). HasPosition run) (merged.front ++ option_to_list merged.previous) (option_to_list merged.next) long-two

      long-previous : All (λ (run : PlacedRun C). HasPosition run) (option_to_list merged.previous)
      long-previous =
          of-back (λ (run : PlacedRun C). HasPosition run) merged.front (option_to_list merged.previous)
          (of-front (λ (run : PlacedRun C). HasPosition run) (merged.front ++ option_to_list merged.previous) (option_to_list merged.next) long-two)

      -- the new run has the positions of the range and of the runs beside it
      run-meets : (previous next : Option (PlacedRun C))
          → All (λ (run : PlacedRun C). HasPosition run) (option_to_list previous) → All (λ (run : PlacedRun C). HasPosition run) (option_to_list next)
          → IfSome previous (λ run. run.1.end ≡ first) → IfSome next (λ run. run.0 ≡ first + count)
          → (nat_lt position (end_of next (first + count)) && nat_lt (first_of previous first) (position + many))
          ≡ ((met (option_to_list previous) || met (option_to_list next)) || of_range)
      run-meets None None _ _ _ _ = refl
      run-meets None (Some next) _ longer _ begins =
          let long = All-head (λ (run : PlacedRun C). HasPosition run) next [] longer in
          grind (arith, long, begins, some, more)
      run-meets (Some last) None longer _ ends _ =
          let long = All-head (λ (run : PlacedRun C). HasPosition run) last [] longer in
          grind (arith, long, ends, some, more)
      run-meets (Some last) (Some next) longer longer_next ends begins =
          let long = All-head (λ (run : PlacedRun C). HasPosition run) last [] longer in
          let long_next = All-head (λ (run : PlacedRun C). HasPosition run) next [] longer_next in
          grind (arith, long, long_next, ends, begins, some, more)

      pub merged-meet : meet new position many ≡ (meet old position many || of_range)
      merged-meet =
          let f = met merged.front in
          let p = met (option_to_list merged.previous) in
          let n = met (option_to_list merged.next) in
          let b = met merged.back in
          ap met merged.are
          ∙ list_any-append (meets position many) merged.front (merged.run ∷ merged.back)
          ∙ ap (λ x. f || (x || b))
          (ap (λ n. nat_lt position n && nat_lt merged.run.0 (position + many)) merged.ends
          ∙ ap (λ n. nat_lt position (end_of merged.next (first + count)) && nat_lt n (position + many)) merged.begins
          ∙ run-meets merged.previous merged.next long-previous long-next merged.previous_ends merged.next_begins)
          ∙ regroup f p n of_range b
          ∙ ap (λ x. x || of_range)
          (sym (ap met merged.were
          ∙ list_any-append (meets position many) ((merged.front ++ option_to_list merged.previous) ++ option_to_list merged.next) merged.back
          ∙ ap (λ x. x || b)
          (list_any-append (meets position many) (merged.front ++ option_to_list merged.previous) (option_to_list merged.next)
          ∙ ap (λ x. x || n) (list_any-append (meets position many) merged.front (option_to_list merged.previous)))))

  -- some of other runs were joined with a list of runs, and these are left
  pub record Joining (one other all rest : List (PlacedRun C)) : Type 0 where
    pub apart : AreApart all
    pub opened : AreOpen kind all
    pub rest_apart : AreApart rest
    pub rest_open : AreOpen kind rest
    pub sizes : size_of_runs kind all + size_of_runs kind rest ≡ size_of_runs kind one + size_of_runs kind other
    pub free : AreFree all rest
    pub were_free : AreFree one other
    pub taken : (position : ℕ) → (meet all position 1 || meet rest position 1) ≡ (meet one position 1 || meet other position 1)
    pub placed : (placed more : List Placed) → StandFor kind one placed → StandFor kind other more
        → (mid left : List Placed) × StandFor kind all mid × StandFor kind rest left × (place_each mid left ≡ place_each placed more)

  pub joining-none : (one other : List (PlacedRun C)) → AreApart one → AreOpen kind one → AreApart other → AreOpen kind other → AreFree one other
      → Joining one other one other
  joining-none one other apart opened others_apart others_open free = record {
    apart = apart;
    opened = opened;
    rest_apart = others_apart;
    rest_open = others_open;
    sizes = refl;
    free = free;
    were_free = free;
    taken = λ position. refl;
    placed = λ placed more stand stands. (placed, more, stand, stands, refl);
  }

  module _ (one other all rest : List (PlacedRun C)) (run : PlacedRun C) (before : Joining one other all (run ∷ rest)) where
    pub next-long : run.0 < run.1.end
    next-long = before.rest_apart.0

    pub next-open : IsOpen kind run.1.range
    next-open = All-head (λ (run : Run C). IsOpen kind run.range) run.1 (values_of rest) before.rest_open

    pub next-free : meet all run.0 (run.1.end - run.0) ≡ false
    next-free = All-head (λ (run : PlacedRun C). meet all run.0 (run.1.end - run.0) ≡ false) run rest before.free

    pub next-room : sizes_of kind all + kind.total run.1.range ≤ size_of_runs kind one + size_of_runs kind other
    next-room = omega (arith, before.sizes, sizes-same all, sum_by-cons size run rest)

    module _ (range : C) (is : range ≡ run.1.range) (new : List (PlacedRun C)) (opened : AreOpen kind new) (took : TakeIn kind all run.0 (run.1.end - run.0) range new) where
      count-is : run.0 + (run.1.end - run.0) ≡ run.1.end
      count-is = let long = before.rest_apart.0 in omega (arith, long)

      some : 0 < run.1.end - run.0
      some = let long = before.rest_apart.0 in omega (arith, long)

      new-meet : (position many : ℕ) → 0 < many → meet new position many ≡ (meet all position many || meets position many run)
      new-meet position many more =
          merged-meet all new run.0 (run.1.end - run.0) (kind.total range) (kind.stands range) took.0 before.apart some position many more
          ∙ ap (λ n. meet all position many || (nat_lt position n && nat_lt run.0 (position + many))) count-is

      shift : (a b c : Bool) → ((a || b) || c) ≡ (a || (b || c))
      shift true b c = refl
      shift false b c = refl

      pub joining-next : Joining one other new rest
      joining-next = record {
        apart = took.1;
        opened = opened;
        rest_apart = before.rest_apart.2;
        rest_open = All-tail (λ (run : Run C). IsOpen kind run.range) run.1 (values_of rest) before.rest_open;
        sizes = omega (
          arith,
          before.sizes,
          sum_by-cons size run rest,
          merged-size all new run.0 (run.1.end - run.0) (kind.total range) (kind.stands range) took.0,
          ap kind.total is,
        );
        free = all-both (λ (next : PlacedRun C). (meet all next.0 (next.1.end - next.0) ≡ false) × (next.0 < next.1.end)) (λ (next : PlacedRun C). run.1.end < next.0)
            (λ (next : PlacedRun C). meet new next.0 (next.1.end - next.0) ≡ false)
            (λ next known far.
            let long = known.1 in
            new-meet next.0 (next.1.end - next.0) (omega (arith, long))
            ∙ both (meet all next.0 (next.1.end - next.0)) (meets next.0 (next.1.end - next.0) run) known.0 (grind (arith, far)))
            rest
            (all-both (λ (next : PlacedRun C). meet all next.0 (next.1.end - next.0) ≡ false) (λ (next : PlacedRun C). HasPosition next)
            (λ (next : PlacedRun C). (meet all next.0 (next.1.end - next.0) ≡ false) × (next.0 < next.1.end)) (λ next free long. (free, long)) rest
            (All-tail (λ (run : PlacedRun C). meet all run.0 (run.1.end - run.0) ≡ false) run rest before.free) (have_positions rest before.rest_apart.2))
            before.rest_apart.1;
        were_free = before.were_free;
        taken = λ position.
            ap (λ b. b || meet rest position 1) (new-meet position 1 (omega arith))
            ∙ shift (meet all position 1) (meets position 1 run) (meet rest position 1)
            ∙ before.taken position;
        placed = λ placed more stand stands.
            let (mid, left, stand_mid, (chunks, others, left_is, of_run, far, stand_rest), same) = before.placed placed more stand stands in
            let long : length chunks ≡ run.1.end - run.0 = let ends = of_run.1 in omega (arith, ends) in
            let meant = subst (λ range. kind.stands range chunks) (sym is) of_run.2 in
            let free : overlaps mid run.0 (length chunks) ≡ false =
            sym (meet_overlaps kind all mid run.0 (length chunks) stand_mid of_run.0)
            ∙ ap (meet all run.0) long ∙ next-free in (
              place mid run.0 chunks,
              others,
              took.2 chunks mid long meant stand_mid,
              stand_rest,
              sym (each-run mid run.0 chunks others of_run.0 free) ∙ ap (place_each mid) (sym left_is) ∙ same,
            );
      }

  -- one run is to be joined
  pub joining-one : (one other : List (PlacedRun C)) (run : PlacedRun C) → other ≡ run ∷ [] → AreApart one → AreOpen kind one → AreApart other → AreOpen kind other
      → AreFree one other → Joining one other one (run ∷ [])
  joining-one one other run is apart opened others_apart others_open free =
      subst (λ (rest : List (PlacedRun C)). Joining one other one rest) is (joining-none one other apart opened others_apart others_open free)

  pub joining-both : (one other all : List (PlacedRun C)) → Joining one other all [] → StandForBoth kind one other all
  joining-both one other all done = λ placed more stand stands.
      let (mid, left, stand_mid, none, same) = done.placed placed more stand stands in
      (disjoint-free kind one other placed more stand stands done.were_free, subst (StandFor kind all) (ap (place_each mid) (sym none) ∙ same) stand_mid)

  pub joining-taken : (one other all : List (PlacedRun C)) → Joining one other all [] → HaveBoth one other all
  joining-taken one other all done = λ position. sym (or-false (meet all position 1)) ∙ done.taken position
    where
      or-false : (b : Bool) → (b || false) ≡ b
      or-false true = refl
      or-false false = refl

-- the runs before those that are left share no position with some
pub record Searched {C : Type 0} (runs others rest : List (PlacedRun C)) : Type 0 where
  pub free : AreFree runs rest → AreFree runs others
  pub apart : AreApart rest
  pub among : (position : ℕ) → meet rest position 1 ≡ true → meet others position 1 ≡ true

pub searched-none : {C : Type 0} (runs others : List (PlacedRun C)) → AreApart others → Searched runs others others
searched-none runs others apart = record {
  free = λ free. free;
  apart = apart;
  among = λ position taken. taken;
}

pub searched-next : {C : Type 0} (runs others rest : List (PlacedRun C)) (run : PlacedRun C) → Searched runs others (run ∷ rest)
    → meet runs run.0 (run.1.end - run.0) ≡ false → Searched runs others rest
searched-next {C} runs others rest run before free = record {
  free = λ all. before.free (All-cons (λ (run : PlacedRun C). meet runs run.0 (run.1.end - run.0) ≡ false) run rest free all);
  apart = before.apart.2;
  among = λ position taken. before.among position (ap (λ b. meets position 1 run || b) taken ∙ or-true (meets position 1 run));
}

pub searched-found : {C : Type 0} (runs others rest : List (PlacedRun C)) (run : PlacedRun C) (position : ℕ) → Searched runs others (run ∷ rest)
    → IsFirstTaken runs run.0 (run.1.end - run.0) position → AreBothAt runs others position
searched-found runs others rest run position before found =
    let from = found.from in
    let under = found.before in
    let long = before.apart.0 in
    (found.taken, before.among position (ap (λ b. b || meet rest position 1) {y = true} (grind (arith, from, under, long))))

pub searched-all : {C : Type 0} (runs others : List (PlacedRun C)) → Searched runs others [] → AreFree runs others
searched-all {C} runs others done = done.free (All-nil (λ (run : PlacedRun C). meet runs run.0 (run.1.end - run.0) ≡ false))
