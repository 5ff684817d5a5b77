use Rattle.std.proofs.Common.{◌≡◌, ◌≢◌, ℕ, ◌-◌, ◌*◌, ◌<◌, List, [], ◌++◌, inl, inr, get_or, length, map, drop, replicate, set, ap, ◌∙◌, arith, length-append, length-drop, length-set}
use Rattle.std.proofs.lemmas.Bool.{cases_lt}
use Rattle.std.proofs.lemmas.List.{get_or-set_same, get_or-set_other, length-replicate}
use Rattle.keyed_blake3.specs.Blake3.{block}
use Rattle.keyed_blake3.proofs.Blake3.Messages.{block_padded, message_at, none, short_at}
use Rattle.keyed_blake3.proofs.messages.put_side_by_side.Goals as goal

pub begin_with-requires : goal.begin_with-requires
begin_with-requires g c = short_at c.args.messages.now c.messages.j c.requires.short c.messages-test.true

pub overflow_cast-last : goal.overflow_cast-last
overflow_cast-last g c = let short = short_at c.args.messages.now c.messages.j c.requires.short c.messages-test.true in omega (arith, c.last_block-place.ensures)

pub overflow_mul-rest : goal.overflow_mul-rest
overflow_mul-rest g c = let short = short_at c.args.messages.now c.messages.j c.requires.short c.messages-test.true in omega (arith, c.last_block-place.ensures)

pub messages-preserved : goal.messages-preserved
messages-preserved g c =
    let l : ℕ = g.row.L in
    let j = c.messages.j in
    let inv = c.messages.invariant in
    let messages = c.args.messages.now in
    let m : List ℕ = (get_or messages j none).now in
    let fits : j < l = omega (arith, c.requires.few) in
    let same : get_or (map (λ m. m.now) messages) j [] ≡ m = message_at messages j c.messages-test.true in
    let short = short_at messages j c.requires.short c.messages-test.true in
    let chunk : c.begin_with.new.chunk ≡ m ++ drop (length m) (replicate 1024 0) =
    c.begin_with.ensures ∙ ap (λ (x : List ℕ). m ++ drop (length m) x) (inv.zeros j (omega arith) fits) in
    let chunk_here : get_or (set c.messages.chunks j c.begin_with.new.chunk) j [] ≡ m ++ drop (length m) (replicate 1024 0) =
    get_or-set_same c.messages.chunks j c.begin_with.new.chunk [] (omega (arith, inv.chunks_size)) ∙ chunk in
    let others : (i : ℕ) → i ≢ j → get_or (set c.messages.chunks j c.begin_with.new.chunk) i [] ≡ get_or c.messages.chunks i [] =
    λ i other. get_or-set_other c.messages.chunks j i c.begin_with.new.chunk [] other in
    record {
      chunks_size = length-set c.messages.chunks j c.begin_with.new.chunk ∙ inv.chunks_size;
      last_size = length-set c.messages.last j _ ∙ inv.last_size;
      rest_size = length-set c.messages.rest j _ ∙ inv.rest_size;
      sizes = λ i h. elim (cases_lt i j) [
        | inl before ↦ ap length (others i (λ e. omega arith)) ∙ inv.sizes i h
        | inr past ↦ elim (cases_lt j i) [
          | inl after ↦ ap length (others i (λ e. omega arith)) ∙ inv.sizes i h
          | inr low ↦
              let here : i ≡ j = omega arith in
              ap (λ (k : ℕ). length (get_or (set c.messages.chunks j c.begin_with.new.chunk) k [])) here ∙ ap length chunk_here
              ∙ length-append m (drop (length m) (replicate 1024 0)) ∙ omega (arith, length-drop (length m) (replicate {A = ℕ} 1024 0), length-replicate {A = ℕ} 1024 0)
        ]
      ];
      zeros = λ i past h. others i (λ e. omega arith) ∙ inv.zeros i (omega arith) h;
      padded = λ i h. elim (cases_lt i j) [
        | inl before ↦ λ n within. ap (λ (x : List ℕ). block x n) (others i (λ e. omega arith)) ∙ inv.padded i before n within
        | inr past ↦
            let here : i ≡ j = omega arith in
            rw (here, same) (λ n within. ap (λ (x : List ℕ). block x n) chunk_here ∙ block_padded m n short within)
      ];
      last = λ i h. elim (cases_lt i j) [
        | inl before ↦ get_or-set_other c.messages.last j i _ 0 (λ e. omega arith) ∙ inv.last i before
        | inr past ↦
            let here : i ≡ j = omega arith in
            rw (here, same) (get_or-set_same c.messages.last j _ 0 (omega (arith, inv.last_size)) ∙ c.last_block-place.ensures)
      ];
      rest = λ i h. elim (cases_lt i j) [
        | inl before ↦ get_or-set_other c.messages.rest j i _ 0 (λ e. omega arith) ∙ inv.rest i before
        | inr past ↦
            let here : i ≡ j = omega arith in
            rw (here, same) (get_or-set_same c.messages.rest j _ 0 (omega (arith, inv.rest_size)) ∙ ap (λ (k : ℕ). length m - 64 * k) c.last_block-place.ensures)
      ];
    }
