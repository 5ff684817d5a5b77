-- Merging the subtrees of a list of handles, one after another, and the status of it.
use Rattle.std.proofs.Common.{arith, ◌≡◌, ◌⊎◌, ◌↔◌, inl, inr, ℕ, ◌+◌, ◌^◌, ◌<◌, ◌≤◌, true, Option, Some, None, List, [], ◌∷◌, length, drop, flat_map, refl, sym, ap, subst, ◌∙◌}
use Rattle.std.specs.Prelude.{IfOk, IfSome, MatchOption, Result, Ok, Err}
use Rattle.std.proofs.lemmas.List.{drop_all}
use Rattle.chunk_ranges.specs.Ranges.{Refusals}
use Rattle.chunk_ranges.specs.Steps.Adjacent.{refusal}
use Rattle.chunk_ranges.specs.declared.adjacent.Passed.{Passed}
use Rattle.xet_roots.specs.declared.error.CoreError.{CoreError}
use Rattle.xet_roots.specs.declared.error.CoreError.TheVariants.{InvalidArguments, SizeOverflow, OutOfMemory, InvalidJson, InvalidLists}
use Rattle.xet_merkle.specs.Groups.{Node}
use Rattle.xet_merkle.specs.Levels.{levels_size}
use Rattle.xet_merkle.specs.Merging.{AreCanonical, IsMerged, NoMarkBetweenSubtrees, ranges_size}
use Rattle.xet_merkle.specs.Steps.SubtreeMerging.{ArePassed, MergesTo}
use Rattle.xet_merkle.specs.Subtree.{Subtree, IsCanonical}
use Rattle.xet_merkle.proofs.Merging.Ranges.{allowed_subtrees, can_merge_first, refused_subtrees, MergesTo-all, MergesTo-first, MergesTo-one, MergesTo-start, MergesTo-end, MergesTo-size}
use Rattle.yurewha_c.specs.Handles.{AllHold}
use Rattle.yurewha_c.specs.Merging.{IsMergeOf, NoMarkBetween}
use Rattle.yurewha_c.specs.Statuses.{done, arguments, sizes, memory, empty_handle, core_status}
use Rattle.yurewha_c.specs.declared.subtree_handle.SubtreeHandle.{SubtreeHandle}
use Rattle.yurewha_c.proofs.HandleLists.{held_once}

-- ---- one after another

-- what the first i subtrees are merged to, if i isn't 0
abbrev pub IsMergedUpTo : List Subtree → ℕ → Option Subtree → Type 0
IsMergedUpTo held i None = i ≡ 0
IsMergedUpTo held i (Some merged) = (0 < i) × MergesTo held (merged ∷ drop i held) × ((range : Subtree) → held ≡ range ∷ [] → merged ≡ range)

-- the next can be merged
pub can_join : (held : List Subtree) (i : ℕ) (before : Option Subtree) (next : Subtree) → ranges_size held < 2 ^ 64 →
    IsMergedUpTo held i before → drop i held ≡ next ∷ drop (i + 1) held →
    IfSome before (λ front. NoMarkBetween front next × (levels_size front.levels + levels_size next.levels < 2 ^ 64))
can_join held i None next fits so_far rest = tt
can_join held i (Some front) next fits so_far rest =
    can_merge_first held (drop (i + 1) held) front next (subst (λ (left : List Subtree). MergesTo held (front ∷ left)) rest so_far.1) fits

-- the next is merged
pub joined_up_to : (held : List Subtree) (i : ℕ) (before : Option Subtree) (next joined : Subtree) → NoMarkBetweenSubtrees held → i < length held →
    IsMergedUpTo held i before → drop i held ≡ next ∷ drop (i + 1) held →
    MatchOption before (joined ≡ next) (λ front. IsMerged front next joined) → IsMergedUpTo held (i + 1) (Some joined)
joined_up_to held i None next joined marks within so_far rest is =
    let all : held ≡ joined ∷ drop (i + 1) held =
    ap (λ (n : ℕ). drop n held) (sym so_far) ∙ rest ∙ ap (λ (s : Subtree). s ∷ drop (i + 1) held) (sym is) in
    (omega arith, subst (λ (left : List Subtree). MergesTo held left) all (MergesTo-all held marks), λ range one. cc)
joined_up_to held i (Some front) next joined marks within so_far rest is = (
  omega arith,
  MergesTo-first held (drop (i + 1) held) front next joined (subst (λ (left : List Subtree). MergesTo held (front ∷ left)) rest so_far.1) is,
  λ range one. absurd (let some = so_far.0 in omega (arith, ap length one)),
)

-- all are merged
pub all_merged : (held : List Subtree) (i : ℕ) (merged : Subtree) → length held ≤ i → IsMergedUpTo held i (Some merged) → IsMergeOf held merged
all_merged held i merged past so_far =
    let to = subst (λ (left : List Subtree). MergesTo held (merged ∷ left)) (drop_all i held past) so_far.1 in
    (MergesTo-one held merged to, MergesTo-start held merged to, MergesTo-end held merged to, MergesTo-size held merged to, so_far.2)

-- there are none
none_merged : (held : List Subtree) (merged : Subtree) → length held ≤ 0 → IsCanonical merged [] → merged.at_start ≡ true → merged.at_end ≡ true →
    levels_size merged.levels ≡ 0 → IsMergeOf held merged
none_merged [] merged none canonical start end size = (of_none, start, end, size, λ range one. absurd (omega (arith, ap length one))) where
  of_none : (lists : List (List Node)) → AreCanonical [] lists → IsCanonical merged (flat_map (λ list. list) lists)
  of_none [] all = canonical
  of_none (list ∷ lists) all = elim all [ ]
none_merged (range ∷ held) merged none canonical start end size = absurd (omega (arith, none))

pub if_none_merged : {E : Type 0} (handles : List SubtreeHandle) (held : List Subtree) (result : Result Subtree E) → AllHold handles held → length held ≤ 0 →
    IfOk result (λ merged. IsCanonical merged []) → IfOk result (λ merged. merged.at_start ≡ true) → IfOk result (λ merged. merged.at_end ≡ true) →
    IfOk result (λ merged. levels_size merged.levels ≡ 0) → IfOk result (λ merged. (kept : List Subtree) × AllHold handles kept × IsMergeOf kept merged)
if_none_merged handles held (Ok merged) all none canonical start end size = (held, all, none_merged held merged none canonical start end size)
if_none_merged handles held (Err error) all none canonical start end size = tt

-- ---- the status

-- the status of merging the subtrees of handles
pub record IsStatusOf (handles : List SubtreeHandle) (status : ℕ) : Type 0 where
  pub on_empty : (status ≡ empty_handle) ↔ ((kept : List Subtree) → ¬ (AllHold handles kept))
  pub on_marks : (kept : List Subtree) → AllHold handles kept → ((status ≡ arguments) ↔ (¬ (NoMarkBetweenSubtrees kept)))
  pub on_sizes : (kept : List Subtree) → AllHold handles kept → ((status ≡ sizes) ↔ (NoMarkBetweenSubtrees kept × (2 ^ 64 ≤ ranges_size kept)))
  pub statuses : (status ≡ done) ⊎ ((status ≡ empty_handle) ⊎ ((status ≡ arguments) ⊎ ((status ≡ sizes) ⊎ (status ≡ memory))))

-- an error that isn't for memory has a status of its own
module _ {T no_mark_between : Type 0} {size : ℕ} where
  for_marks : (error : CoreError) → Refusals {T = T} no_mark_between size (Err error) → (core_status error ≡ arguments) ↔ (¬ no_mark_between)
  for_marks InvalidArguments h = (λ _. h.arguments.0 refl, λ _. refl)
  for_marks SizeOverflow h = (λ e. absurd (omega (arith, e)), λ none. let other = h.arguments.1 none in cc)
  for_marks OutOfMemory h = (λ e. absurd (omega (arith, e)), λ none. let other = h.arguments.1 none in cc)
  for_marks (InvalidJson rule) h = (λ e. absurd (omega (arith, e)), λ none. let other = h.arguments.1 none in cc)
  for_marks (InvalidLists rule) h = (λ e. absurd (omega (arith, e)), λ none. let other = h.arguments.1 none in cc)

  for_sizes : (error : CoreError) → Refusals {T = T} no_mark_between size (Err error) → (core_status error ≡ sizes) ↔ (no_mark_between × (2 ^ 64 ≤ size))
  for_sizes SizeOverflow h = (λ _. h.overflow.0 refl, λ _. refl)
  for_sizes InvalidArguments h = (λ e. absurd (omega (arith, e)), λ all. let other = h.overflow.1 all in cc)
  for_sizes OutOfMemory h = (λ e. absurd (omega (arith, e)), λ all. let other = h.overflow.1 all in cc)
  for_sizes (InvalidJson rule) h = (λ e. absurd (omega (arith, e)), λ all. let other = h.overflow.1 all in cc)
  for_sizes (InvalidLists rule) h = (λ e. absurd (omega (arith, e)), λ all. let other = h.overflow.1 all in cc)

  one_of_three : (error : CoreError) → Refusals {T = T} no_mark_between size (Err error) →
      (core_status error ≡ arguments) ⊎ ((core_status error ≡ sizes) ⊎ (core_status error ≡ memory))
  one_of_three error h = elim h.errors [
    | inl marks ↦ inl (ap core_status marks)
    | inr other ↦ elim other [ inl overflow ↦ inr (inl (ap core_status overflow)) | inr none ↦ inr (inr (ap core_status none)) ]
  ]

-- of handles that hold subtrees that were passed
module _ (handles : List SubtreeHandle) (held : List Subtree) (all : AllHold handles held) (passed : Passed) (are : ArePassed passed held)
    (reason : Option CoreError) (told : reason ≡ refusal passed.no_mark_between passed.total) where
  same : (kept : List Subtree) → AllHold handles kept → held ≡ kept
  same kept h = held_once held kept (sym all ∙ h)

  -- they are refused
  pub status_of_refused : (error : CoreError) (status : ℕ) → reason ≡ Some error → status ≡ core_status error → IsStatusOf handles status
  status_of_refused error status some is =
      let h : Refusals {T = ℕ} (NoMarkBetweenSubtrees held) (ranges_size held) (Err error) = refused_subtrees held reason error (passed, are, told) some in
      let three = one_of_three error h in
      subst (IsStatusOf handles) (sym is) (record {
        on_empty = (
          λ e. absurd (elim three [ inl k ↦ omega (arith, k, e) | inr more ↦ elim more [ inl k ↦ omega (arith, k, e) | inr k ↦ omega (arith, k, e) ] ]),
          λ none. absurd (none held all),
        );
        on_marks = λ kept other. subst (λ (l : List Subtree). (core_status error ≡ arguments) ↔ (¬ (NoMarkBetweenSubtrees l))) (same kept other) (for_marks error h);
        on_sizes = λ kept other. subst (λ (l : List Subtree). (core_status error ≡ sizes) ↔ (NoMarkBetweenSubtrees l × (2 ^ 64 ≤ ranges_size l))) (same kept other) (for_sizes error h);
        statuses = inr (inr three);
      })

  -- they can be merged
  pub can_merge : reason ≡ None → NoMarkBetweenSubtrees held × (ranges_size held < 2 ^ 64)
  can_merge none = allowed_subtrees held reason (passed, are, told) none

  pub status_of_allowed : (status : ℕ) → reason ≡ None → (status ≡ done) ⊎ (status ≡ memory) → IsStatusOf handles status
  status_of_allowed status none is =
      let can = can_merge none in
      record {
        on_empty = (λ e. absurd (elim is [ inl k ↦ omega (arith, k, e) | inr k ↦ omega (arith, k, e) ]), λ none. absurd (none held all));
        on_marks = λ kept other. subst (λ (l : List Subtree). (status ≡ arguments) ↔ (¬ (NoMarkBetweenSubtrees l))) (same kept other) (
          λ e. absurd (elim is [ inl k ↦ omega (arith, k, e) | inr k ↦ omega (arith, k, e) ]),
          λ none. absurd (none can.0),
        );
        on_sizes = λ kept other. subst (λ (l : List Subtree). (status ≡ sizes) ↔ (NoMarkBetweenSubtrees l × (2 ^ 64 ≤ ranges_size l))) (same kept other) (
          λ e. absurd (elim is [ inl k ↦ omega (arith, k, e) | inr k ↦ omega (arith, k, e) ]),
          λ past. absurd (let fits = can.1 in let over = past.1 in omega arith),
        );
        statuses = elim is [ inl k ↦ inl k | inr k ↦ inr (inr (inr (inr k))) ];
      }
