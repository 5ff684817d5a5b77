use Rattle.std.proofs.Common.{arith, ◌≡◌, ◌+◌, ◌-◌, ◌≤◌, ◌++◌, ℕ, List, length, take, drop, refl, sym, ap, subst, ◌∙◌}
use Rattle.verified_reader.specs.Kept.{AreKeptAt, AreKeptFrom, AreUsed, HasPlace}
use Rattle.std.specs.Ordering.{nat_cmp, ord_min}
use borrow.Rule.Slice.PartMut.{put_mid}
use Rattle.std.proofs.lemmas.List.{drop-drop, length-take-le}
use Rattle.std.proofs.lemmas.Slice.{drop-put_mid, take-put_mid}
use Rattle.verified_reader.proofs.Reading.{kept_before, kept_more, least_left, least_right, least_some, length-put, some_bytes, used_members, used_more}
use Rattle.verified_reader.proofs.kept_chunks.KeptChunks.read.Goals as goal

pub chunks-init : goal.chunks-init
chunks-init g c = record { within = omega arith; copied = λ k below. absurd (omega (arith, below)); rest = refl; used = AreUsed.none }

pub returns-in_default-clause-stops : goal.returns-in_default-clause-stops
returns-in_default-clause-stops g c = λ below kept.
    let fits = c.places_fit.ensures (c.args.from + c.chunks.done) kept in
    grind (arith, fits, c.in_default.ensures)

pub returns-in_default-at-clause-stops : goal.returns-in_default-at-clause-stops
returns-in_default-at-clause-stops g c = λ below kept.
    let place : c.in-Some.place ≡ c.args.from + c.chunks.done = grind (arith, c.in-Some.ensures) in
    let (chunk, among, has) = kept in
    c.in_default-at.ensures.none (
      chunk,
      (used_members c.args.self.now c.args.from (c.args.from + c.chunks.done) c.chunks.self c.chunks.invariant.used chunk).1 among,
      subst (λ (p : ℕ). HasPlace chunk p) (sym place) has,
    )

pub chunks-smaller : goal.chunks-smaller
chunks-smaller g c =
    let some = some_bytes c.chunks.self c.in-Some.place c.in-Some-at.bytes.now c.in-Some-at.ensures.some in
    let done = c.chunks.done in
    let room = c.chunks.room in
    let bytes = c.in-Some-at.bytes.now in
    let n = c.min-size.result in
    let test = c.chunks-test.true in
    let chosen : n ≡ ord_min nat_cmp (length bytes) (length room - done) = c.min-size.ensures in
    let right = least_right (length bytes) (length room - done) n chosen in
    let more = least_some (length bytes) (length room - done) n chosen some (omega (arith, test)) in
    let ys = c.copy_from_slice.new.self in
    let left = least_left (length bytes) (length room - done) n chosen in
    let size : length ys ≡ (done + n) - done = ap length c.copy_from_slice.ensures.after ∙ length-take-le n bytes left ∙ omega arith in
    let all : length (put_mid done ((done + n) - done) room ys) ≡ length room = length-put done ((done + n) - done) room ys (omega (arith, right, test)) size in
    omega (arith, all, right, more, test)

pub chunks-preserved : goal.chunks-preserved
chunks-preserved g c =
    let now = c.args.self.now in
    let from = c.args.from in
    let done = c.chunks.done in
    let room = c.chunks.room in
    let bytes = c.in-Some-at.bytes.now in
    let n = c.min-size.result in
    let so_far = c.chunks.invariant in
    let place : c.in-Some.place ≡ from + done = grind (arith, c.in-Some.ensures) in
    let some = some_bytes c.chunks.self c.in-Some.place bytes c.in-Some-at.ensures.some in
    let test = c.chunks-test.true in
    let chosen : n ≡ ord_min nat_cmp (length bytes) (length room - done) = c.min-size.ensures in
    let left = least_left (length bytes) (length room - done) n chosen in
    let right = least_right (length bytes) (length room - done) n chosen in
    let more = least_some (length bytes) (length room - done) n chosen some (omega (arith, test)) in
    let k = (done + n) - done in
    let ys = c.copy_from_slice.new.self in
    let size : length ys ≡ k = ap length c.copy_from_slice.ensures.after ∙ length-take-le n bytes left ∙ omega arith in
    let all : length (put_mid done k room ys) ≡ length room = length-put done k room ys (omega (arith, right, test)) size in
    let near : done ≤ length room = omega (arith, test) in
    let front : length (take done room) ≡ done = length-take-le done room near in
    let taken : take (done + n) (put_mid done k room ys) ≡ take done room ++ take n bytes =
    take-put_mid done k room ys (done + n) (omega (arith, size)) near ∙ ap (λ (l : List ℕ). take done room ++ l) c.copy_from_slice.ensures.after in
    let here : AreKeptFrom now (from + length (take done room)) bytes =
    subst (λ (p : ℕ). AreKeptFrom now p bytes) (place ∙ ap (λ (m : ℕ). from + m) (sym front))
    (kept_before now from (from + done) c.in-Some.place c.chunks.self bytes so_far.used c.in-Some-at.ensures.some) in
    record {
      within = omega (arith, all, right, test);
      copied = subst (λ (l : List ℕ). AreKeptAt now from l) (sym taken) (kept_more now from n (take done room) bytes left so_far.copied here);
      rest = drop-put_mid done k room ys (done + n) (omega arith) near size
          ∙ sym (drop-drop n done room) ∙ ap (drop n) so_far.rest ∙ drop-drop n done c.args.room.now;
      used = used_more now from (from + done) (from + (done + n)) c.in-Some.place c.chunks.self c.use_at.new.self so_far.used c.use_at.ensures
          (omega (arith, place)) (omega (arith, place, more)) (omega (arith, place));
    }
