use Rattle.std.proofs.Common.{◌≡◌, ℕ, ◌++◌, ◌+◌, ◌-◌, ◌*◌, ◌/◌, ◌<◌, List, length, take, drop, arith, refl, subst, sym, ap, ◌∙◌, length-append, length-drop}
use Rattle.std.proofs.lemmas.List.{take_rest}
use Rattle.std.proofs.Math.Seq.{drop-append-add}
use Rattle.keyed_blake3.specs.Blake3.{blocks_before_last, words_at}
use Rattle.keyed_blake3.specs.Blake3Hasher.{Holds, IsTaken}
use Rattle.keyed_blake3.specs.Steps.Tree.{IsEnded}
use Rattle.keyed_blake3.specs.declared.hasher.Hasher.{Hasher}
use Rattle.keyed_blake3.proofs.Blake3.Absorbing.{IsTaken_count, IsTaken_grown, IsTaken_short, IsTaken_tail, block_full}
use Rattle.keyed_blake3.proofs.hasher.Hasher.take_in.Goals as goal
use Rattle.keyed_blake3.proofs.hasher.Hasher.take_in.Goals.{then-held-gt0, else-held-gt0}

pub whole-init : goal.whole-init
whole-init c =
    let s = c.args.self.now in
    let d = c.args.piece.now in
    let n : ℕ = c.args.number in
    elim c.if-held-gt0.branch [
      | then-held-gt0 w ↦ record {
        count = ap (λ (r : Hasher). r.count) w.self-is;
        number = omega arith;
        start = omega arith;
        absorbed = λ some key m held.
            let total = IsTaken_count key c.args.self.now c.args.number m held in
            let tree = ap (λ (r : Hasher). r.tree) w.self-is in
            let step = w.absorb.ensures (words_at 8 key) (m ++ d) (IsTaken_grown key s m d n held (omega arith))
            (omega (arith, length-append m d))
            (block_full key s m d w.copy_from_slice-then-held-gt0.new.self n _ _ _ held (omega arith) (omega arith) refl refl (omega arith) (omega arith) (omega arith) w.copy_from_slice-then-held-gt0.ensures.after) in
            rw (w.number-is, tree) step;
        whole = λ end. absurd (omega arith);
        ended = λ end. absurd (omega arith);
      }
      | else-held-gt0 w ↦ record {
        count = ap (λ (r : Hasher). r.count) w.self-is;
        number = omega arith;
        start = omega arith;
        absorbed = λ some key m held.
            let total = IsTaken_count key c.args.self.now c.args.number m held in
            let tree = ap (λ (r : Hasher). r.tree) w.self-is in
            rw (w.number-is, tree) (IsTaken_grown key s m d n held (omega arith));
        whole = λ end. absurd (omega arith);
        ended = λ end. absurd (omega arith);
      }
    ]

pub whole-preserved : goal.whole-preserved
whole-preserved c =
    let d = c.args.piece.now in
    let a : ℕ = c.whole.start in
    let rest_is = take_rest d a in
    let size : length (take (length d - a) (drop a d)) ≡ length d - a = ap length rest_is ∙ length-drop a d in
    let more : a < length d = omega arith in
    let bytes : (key m : List ℕ) → IsTaken key c.args.self.now c.args.number m → take (length d - a) (drop a d) ≡ drop (64 * c.whole.number) (m ++ d) =
    λ key m held.
    let total = IsTaken_count key c.args.self.now c.args.number m held in
    let place : 64 * c.whole.number ≡ length m + a = omega arith in
    rest_is ∙ sym (ap (λ (k : ℕ). drop k (m ++ d)) place ∙ drop-append-add m d a) in
    record {
      count = c.whole.invariant.count;
      number = omega arith;
      start = omega arith;
      absorbed = λ some key m held.
          c.absorb_next-blocks.ensures.absorbed (omega arith) (words_at 8 key) (m ++ d) (c.whole.invariant.absorbed more key m held) (bytes key m held);
      whole = λ end. let w = c.absorb_next-blocks.ensures.whole (omega arith) in (w.0, omega (arith, w.1));
      ended = λ end key m held.
          c.absorb_next-blocks.ensures.ended (omega arith) (words_at 8 key) (m ++ d) (c.whole.invariant.absorbed more key m held) (bytes key m held);
    }

pub returns-then-piece-room-clause-message : goal.returns-then-piece-room-clause-message
returns-then-piece-room-clause-message c = λ key m held.
    let s = c.args.self.now in
    let d = c.args.piece.now in
    let total = IsTaken_count key s c.args.number m held in
    c.close.ensures.message key (m ++ d)
    (IsTaken_short key s _ m d c.copy_from_slice.new.self c.args.number (blocks_before_last (m ++ d)) _ _ held (omega arith) (omega arith) refl (omega arith)
    c.copy_from_slice.ensures.after refl refl refl (omega (arith, length-append m d)))

pub returns-then-start-piece-clause-message : goal.returns-then-start-piece-clause-message
unfolding Holds
returns-then-start-piece-clause-message c = λ key m held.
    let d = c.args.piece.now in
    let end : c.whole.start ≡ length d = c.if-start-piece.true in
    let whole = c.whole.invariant.whole end in
    let total = IsTaken_count key c.args.self.now c.args.number m held in
    let size : length (m ++ d) ≡ 64 * c.whole.number = omega (arith, length-append m d) in
    let here : c.whole.number / 16 ≡ length (m ++ d) / 1024 = omega (arith, whole.0) in (
      omega (arith, length-append m d),
      λ one. absurd (omega (arith, whole.0, whole.1, one (omega (arith, whole.1)))),
      λ several is_whole. subst (λ (k : ℕ). IsEnded (words_at 8 key) c.whole.self.tree k (m ++ d)) here (c.whole.invariant.ended end key m held),
    )

pub returns-clause-message : goal.returns-clause-message
returns-clause-message c = λ key m held.
    let d = c.args.piece.now in
    let total = IsTaken_count key c.args.self.now c.args.number m held in
    c.close-2.ensures.message key (m ++ d)
    (IsTaken_tail key _ c.whole.self.tree m d c.copy_from_slice-2.new.self c.whole.self.block c.whole.number (blocks_before_last (m ++ d)) c.whole.start _
    (c.whole.invariant.absorbed (omega arith) key m held) (omega arith) (omega arith) (omega arith) (omega arith) refl refl
    (c.copy_from_slice-2.ensures.after ∙ take_rest d c.whole.start) (omega (arith, length-append m d)))
