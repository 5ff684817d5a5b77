use Rattle.std.proofs.Common.{arith, nat_cmp, ◌≡◌, ◌+◌, ◌<◌, ◌≤◌, ℕ, List, [], ◌∷◌, ◌++◌, sym, ap, subst, ◌∙◌, append_assoc}
use Rattle.std.specs.Prelude.{All, Some, is_some}
use Rattle.std.specs.BTreeMap.{is_at}
use Rattle.std.specs.Map.{lookup, remove_entry, set_value}
use Rattle.std.proofs.lemmas.Bool.{true≢false}
use Rattle.std.proofs.lemmas.List.Elements.{All-nil, All-cons, All-append, All-weaker}
use Rattle.std.proofs.lemmas.Map.Steps.{set_value_same}
use Rattle.std.proofs.lemmas.Option.{same_Some}
use Rattle.upload_session.specs.declared.runs.Run.{Run}
use Rattle.upload_session.specs.Session.{PlacedRun}
use Rattle.upload_session.specs.Steps.Neighbours.{AreAround}
use Rattle.upload_session.specs.Steps.OpenRuns.{IsOpen, AreOpen, sizes_of, size_at}
use Rattle.upload_session.proofs.Neighbours.{run_to}
use Rattle.upload_session.proofs.OpenRuns.{lookup-changed, lookup-removed, lookup-set, moved-open, open_at}
use Rattle.upload_session.proofs.Refusals.{at_error}
use Rattle.upload_session.proofs.SortedEntries.{lookup-at, set_value-at, remove-at}
use Rattle.upload_session.proofs.runs.Runs.put_before_next.Goals as goal
use Rattle.upload_session.proofs.runs.Runs.put_before_next.Goals.{in-Some+in_ok-prepend, in_default, in-Some-remove+in-Some-get_mut, in-Some-remove+in_default-get_mut, in_default-remove}

pub returns-in_err-prepend-clause-unchanged : goal.returns-in_err-prepend-clause-unchanged
returns-in_err-prepend-clause-unchanged g c =
    let run = c.in-Some.next.now in
    let test = is_at (nat_cmp c.args.after) in
    let runs = c.self.inside.runs.entries in
    at_error c.from_residual.result
    ((c.get_mut.follows.holds (run_to run.end c.prepend.new.self)).0
    ∙ ap (λ range. set_value test runs (run_to run.end range)) c.in_err-prepend.ensures.unchanged
    ∙ set_value_same test runs run (sym c.in-Some.ensures.value)
    ∙ c.self.view_is)

below-after : {C : Type 0} (begin after : ℕ) (others back : List (PlacedRun C)) (last : Run C) → AreAround begin after others back
    → All (λ (run : PlacedRun C). run.0 < after) (others ++ (begin, last) ∷ [])
below-after {C} begin after others back last (low, ahead, high) =
    All-append (λ (run : PlacedRun C). run.0 < after) others ((begin, last) ∷ [])
    (All-weaker (λ (run : PlacedRun C). run.0 < begin) (λ (run : PlacedRun C). run.0 < after) (λ run h. omega (arith, h, ahead)) others low)
    (All-cons (λ (run : PlacedRun C). run.0 < after) (begin, last) [] ahead (All-nil (λ (run : PlacedRun C). run.0 < after)))

pub returns-clause-put : goal.returns-clause-put
returns-clause-put g c = λ others last next back is around.
    let begin = c.args.begin in
    let after = c.args.after in
    let test = is_at (nat_cmp after) in
    let before = others ++ (begin, last) ∷ [] in
    let low = below-after begin after others back last around in
    let split : c.self.inside.runs.entries ≡ before ++ (after, next) ∷ back =
    c.self.view_is ∙ is ∙ sym (append_assoc others ((begin, last) ∷ []) ((after, next) ∷ back)) in
    let found = ap (λ runs. lookup test runs) split ∙ lookup-at after before back next low in
    elim c.match-get_mut.branch [
      | in-Some+in_ok-prepend w ↦
          let range = w.prepend.new.self in
          let same : w.in-Some.next.now ≡ next = same_Some _ _ (w.in-Some.ensures.value ∙ found) in
          let new : Run g.row.C.Denot = run_to w.in-Some.next.now.end range in
          let changed : c.match-get_mut.self-inside.runs.entries ≡ before ++ (after, new) ∷ back =
          ap (λ inside. inside.runs.entries) w.self-inside-is ∙ (c.get_mut.follows.holds new).0 ∙ ap (λ runs. set_value test runs new) split
          ∙ set_value-at after before back next new low in
          let removed : c.remove.new.self.entries ≡ others ++ (begin, last) ∷ back =
          c.remove.ensures.entries ∙ ap (λ runs. remove_entry test runs) changed ∙ remove-at after before back new low
          ∙ append_assoc others ((begin, last) ∷ []) back in
          let value : c.remove.result ≡ Some new = c.remove.ensures.value ∙ ap (λ runs. lookup test runs) changed ∙ lookup-at after before back new low in
          let here = ap (λ runs. lookup (is_at (nat_cmp begin)) runs) removed ∙ lookup-at begin others back last around.0 in
          elim c.match-remove.branch [
            | in-Some-remove+in-Some-get_mut v ↦
                let taken : v.in-Some-remove.next ≡ new = same_Some _ _ (sym v.in-Some-remove.is ∙ value) in
                let final : c.match-remove.self ≡ others ++ (begin, new) ∷ back =
                v.self-is ∙ (v.get_mut-in-Some-remove.follows.holds v.in-Some-remove.next).0
                ∙ ap (λ runs. set_value (is_at (nat_cmp begin)) runs v.in-Some-remove.next) removed
                ∙ set_value-at begin others back last v.in-Some-remove.next around.0
                ∙ ap (λ run. others ++ (begin, run) ∷ back) taken in (
                  range,
                  final ∙ ap (λ (run : Run g.row.C.Denot). others ++ (begin, run_to run.end range) ∷ back) same,
                  λ a b front_stands next_stands. w.in_ok-prepend.ensures.stands a b front_stands (subst (λ (run : Run g.row.C.Denot). g.C.ChunkRange.stands run.range b) (sym same) next_stands),
                  w.in_ok-prepend.ensures.start,
                  w.in_ok-prepend.ensures.end ∙ ap (λ (run : Run g.row.C.Denot). g.C.ChunkRange.end run.range) same,
                  w.in_ok-prepend.ensures.total ∙ ap (λ (run : Run g.row.C.Denot). g.C.ChunkRange.total c.args.front + g.C.ChunkRange.total run.range) same,
                )
            | in-Some-remove+in_default-get_mut v ↦ absurd (true≢false (sym (ap is_some (v.in_default-get_mut.ensures.value ∙ here))))
            | in_default-remove v ↦ absurd (true≢false (ap is_some (sym value ∙ v.in_default-remove.is)))
          ]
      | in_default w ↦ absurd (true≢false (sym (ap is_some (w.in_default.ensures.value ∙ found))))
    ]

pub returns-clause-sizes : goal.returns-clause-sizes
returns-clause-sizes g c =
    let kind = g.C.ChunkRange in
    let runs = c.args.self.now in
    let begin = c.args.begin in
    let after = c.args.after in
    let test = is_at (nat_cmp after) in
    let at_begin = is_at (nat_cmp begin) in
    let Kept : List (PlacedRun g.row.C.Denot) → Type 0 =
    λ now. AreOpen kind now × (sizes_of kind now + size_at kind begin runs ≤ sizes_of kind runs + kind.total c.args.front) in
    elim c.match-get_mut.branch [
      | in-Some+in_ok-prepend w ↦
          let next = w.in-Some.next.now in
          let is : lookup test runs ≡ Some next = sym (w.in-Some.ensures.value ∙ ap (λ runs. lookup test runs) c.self.view_is) in
          let run : Run g.row.C.Denot = run_to next.end w.prepend.new.self in
          let of_run : IsOpen kind run.range =
          (w.in_ok-prepend.ensures.start ∙ c.requires.front.0, w.in_ok-prepend.ensures.end ∙ (open_at kind after runs next c.requires.room.0 is).1) in
          let changed : c.match-get_mut.self-inside.runs.entries ≡ set_value test runs run =
          ap (λ inside. inside.runs.entries) w.self-inside-is ∙ (c.get_mut.follows.holds run).0 ∙ ap (λ runs. set_value test runs run) c.self.view_is in
          let rest = remove_entry test (set_value test runs run) in
          let removed : c.remove.new.self.entries ≡ rest = c.remove.ensures.entries ∙ ap (λ runs. remove_entry test runs) changed in
          let value : c.remove.result ≡ Some run = c.remove.ensures.value ∙ ap (λ runs. lookup test runs) changed ∙ lookup-changed after runs next run is in
          elim c.match-remove.branch [
            | in-Some-remove+in-Some-get_mut v ↦
                let taken : v.in-Some-remove.next ≡ run = same_Some _ _ (sym v.in-Some-remove.is ∙ value) in
                let final : c.match-remove.self ≡ set_value at_begin rest run =
                v.self-is ∙ (v.get_mut-in-Some-remove.follows.holds v.in-Some-remove.next).0
                ∙ ap (λ runs. set_value at_begin runs v.in-Some-remove.next) removed
                ∙ ap (λ (run : Run g.row.C.Denot). set_value at_begin rest run) taken in
                let last = v.in-Some-get_mut.run'.now in
                let there : lookup at_begin rest ≡ Some last = sym (v.in-Some-get_mut.ensures.value ∙ ap (λ runs. lookup at_begin runs) removed) in
                subst Kept (sym final)
                (moved-open kind runs c.requires.room.0 run of_run begin after c.requires.apart next is (kind.total c.args.front) w.in_ok-prepend.ensures.total last there)
            | in-Some-remove+in_default-get_mut v ↦
                absurd (true≢false (sym c.requires.begin
                ∙ ap is_some (sym (lookup-removed begin after c.requires.apart (set_value test runs run) ∙ lookup-set begin after c.requires.apart runs run)
                ∙ ap (λ runs. lookup at_begin runs) (sym removed) ∙ sym v.in_default-get_mut.ensures.value)))
            | in_default-remove v ↦ absurd (true≢false (ap is_some (sym value ∙ v.in_default-remove.is)))
          ]
      | in_default w ↦ absurd (true≢false (sym c.requires.next ∙ sym (ap is_some (w.in_default.ensures.value ∙ ap (λ runs. lookup test runs) c.self.view_is))))
    ]
