-- What holds after a range is placed.
use Rattle.std.proofs.Common.{arith, ◌≡◌, ◌+◌, ◌<◌, ◌≤◌, ℕ, Bool, true, false, List, [], ◌∷◌, ◌++◌, ◌&&◌, ◌||◌, nat_lt, length, refl, sym, ap, subst, ◌∙◌}
use Rattle.std.specs.Prelude.{Option, None, Some, cond, find, is_some, option_to_list}
use Rattle.std.specs.List.{list_any}
use Rattle.std.proofs.lemmas.Bool.{true≢false}
use Rattle.std.proofs.lemmas.List.Elements.{All-head}
use Rattle.std.proofs.lemmas.List.Folds.{list_any_none}
use Rattle.xet_roots.specs.Groups.{Node}
use Rattle.xet_roots.specs.Roots.{total_size}
use Rattle.chunk_ranges.specs.declared.chunk_range.ChunkRange as chunk_range
use Rattle.upload_session.specs.Gaps.{IsFirstTaken}
use Rattle.upload_session.specs.Session.{PlacedRun, ends_after, meet, meets, size_of_runs, AreApart, AreJoined, IsRangeJoined}
use Rattle.upload_session.proofs.Gaps.{found, first-or-later}
use Rattle.upload_session.proofs.Positions.{both}

-- runs that a range of chunks was joined with were joined with the chunks
pub chunks-joined : {C A : Type 0} (kind : chunk_range.Ghosts C A) (old new : List (PlacedRun C)) (first : ℕ) (chunks : List Node) (range : C)
    → kind.stands range chunks → kind.total range ≡ total_size chunks → IsRangeJoined kind old first (length chunks) range new
    → AreJoined kind old first chunks new
chunks-joined kind old new first chunks range stands total joined = record {
  front = joined.front;
  previous = joined.previous;
  next = joined.next;
  back = joined.back;
  run = joined.run;
  were = joined.were;
  are = joined.are;
  front_ends = joined.front_ends;
  previous_ends = joined.previous_ends;
  next_begins = joined.next_begins;
  back_begins = joined.back_begins;
  begins = joined.begins;
  ends = joined.ends;
  stands = λ a these b keeps same back. joined.stands a these b keeps (subst (kind.stands range) (sym same) stands) back;
  no_start = joined.no_start;
  no_end = joined.no_end;
  size = joined.size ∙ ap (λ n. size_of_runs kind (option_to_list joined.previous) + n + size_of_runs kind (option_to_list joined.next)) total;
}

module _ {C : Type 0} (position count : ℕ) where
  -- where no run ends after a position, none has one from it on
  pub none-meet : (runs : List (PlacedRun C)) → find (ends_after position) runs ≡ None → meet runs position count ≡ false
  none-meet [] none = refl
  none-meet (first ∷ runs) none = choose (none-meet runs) (nat_lt position first.1.end) refl none
    where
      choose : (find (ends_after position) runs ≡ None → meet runs position count ≡ false)
          → (b : Bool) → nat_lt position first.1.end ≡ b → cond b (Some first) (find (ends_after position) runs) ≡ None
          → meet (first ∷ runs) position count ≡ false
      choose rest true ends is = absurd (true≢false (ap is_some is))
      choose rest false ended is = both (meets position count first) (meet runs position count) (grind (arith, ended)) (rest is)

  -- where the first run that ends after it begins after some positions, none has one of them
  pub far-meet : (runs : List (PlacedRun C)) (run : PlacedRun C) → AreApart runs → found position runs run → position + count ≤ run.0
      → meet runs position count ≡ false
  far-meet [] run apart is far = absurd (true≢false (sym (ap is_some is)))
  far-meet (first ∷ runs) run (longer, beyond, apart) is far =
      first-or-later position first runs run
      (λ same _. subst (λ (run : PlacedRun C). position + count ≤ run.0 → meet (first ∷ runs) position count ≡ false) same
      (λ far. both (meets position count first) (meet runs position count) (grind (arith, far))
      (list_any_none (meets position count) runs (λ k d inside. let farther = beyond k d inside in grind (arith, farther, far, longer)))) far)
      (λ ended is. both (meets position count first) (meet runs position count) (grind (arith, ended)) (far-meet runs run apart is far)) is

module _ {C : Type 0} where
  -- a position that is taken is one of those from it on
  within : (runs : List (PlacedRun C)) (first count position : ℕ) → first ≤ position → position < first + count → meet runs position 1 ≡ true
      → meet runs first count ≡ true
  within [] first count position from before taken = absurd (true≢false (sym taken))
  within (run ∷ runs) first count position from before taken = choose (within runs first count position from before) (meets position 1 run) refl taken
    where
      or-true : (b : Bool) → (b || true) ≡ true
      or-true true = refl
      or-true false = refl

      choose : (meet runs position 1 ≡ true → meet runs first count ≡ true) → (b : Bool) → meets position 1 run ≡ b
          → (b || meet runs position 1) ≡ true → meet (run ∷ runs) first count ≡ true
      choose rest true there h = ap (λ b. b || meet runs first count) {y = true} (grind (arith, there, from, before))
      choose rest false other h = ap (λ b. meets first count run || b) (rest h) ∙ or-true (meets first count run)

  pub not_first_taken : (runs : List (PlacedRun C)) (first count position : ℕ) → meet runs first count ≡ false → IsFirstTaken runs first count position → ⊥
  not_first_taken runs first count position free taken =
      true≢false (sym (within runs first count position taken.from taken.before taken.taken) ∙ free)

  pub free-within : (runs : List (PlacedRun C)) (first count position : ℕ) → meet runs first count ≡ false → first ≤ position → position < first + count
      → meet runs position 1 ≡ false
  free-within runs first count position free from before = choose (meet runs position 1) refl
    where
      choose : (b : Bool) → meet runs position 1 ≡ b → meet runs position 1 ≡ false
      choose true taken = absurd (true≢false (sym (within runs first count position from before taken) ∙ free))
      choose false is = is
