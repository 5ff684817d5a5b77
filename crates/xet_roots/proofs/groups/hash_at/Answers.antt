use Rattle.std.proofs.Common.{◌≡◌, ℕ, ◌<◌, ◌≤◌, List, [], inl, inr, get_or, length, take, set, sym, ap, ◌∙◌, arith, length-set, Bor}
use Rattle.std.proofs.lemmas.Bool.{cases_lt}
use Rattle.std.proofs.lemmas.List.{get_or-set_other, get_or-set_same, get_or-take, get_or_default, length-take-le}
use Rattle.xet_hash.specs.Blake3.{keyed_hash}
use Rattle.xet_hash.specs.Hash.{hash_of, internal_key}
use Rattle.xet_roots.specs.Groups.{Node}
use Rattle.xet_roots.specs.Roots.{parent_hash}
use Rattle.xet_roots.proofs.Lists.Lent.{lent, lent_at}
use Rattle.xet_roots.proofs.Roots.Placed.{set_cases}
use Rattle.xet_roots.proofs.groups.hash_at.Goals as goal

pub put_text-requires : goal.put_text-requires
put_text-requires c =
    let at : ℕ = get_or c.args.places.now c.texts.k 0 in
    let groups = c.args.groups.now in
    let fits : at < length groups = c.requires.places.1 c.texts.k c.texts-test.true in
    let same = lent_at groups at c.index-groups-places.result fits in
    let few = c.requires.few at fits in
    omega (arith, ap length same, ap length (ap (λ (g : Bor (List Node)). g.now) c.index-groups-places.is))

pub texts-preserved : goal.texts-preserved
texts-preserved c =
    let k = c.texts.k in
    let inv = c.texts.invariant in
    let slots = c.texts.slots in
    let lens = c.texts.lens in
    let at : ℕ = get_or c.args.places.now k 0 in
    let groups = c.args.groups.now in
    let slot = c.put_text.new.slot in
    let len = c.put_text.result in
    let e = c.put_text.ensures in
    let fits : at < length groups = c.requires.places.1 k c.texts-test.true in
    let same : get_or (lent groups) at [] ≡ c.index-groups-places.result.now =
    lent_at groups at c.index-groups-places.result fits ∙ sym (ap (λ (g : Bor (List Node)). g.now) c.index-groups-places.is) in
    let room : k < 16 = omega (arith, c.requires.places.0, c.texts-test.true) in
    let of_slot : get_or (set slots k slot) k [] ≡ slot = get_or-set_same slots k slot [] (omega (arith, inv.slots_size)) in
    let of_len : get_or (set lens k len) k 0 ≡ len = get_or-set_same lens k len 0 (omega (arith, inv.lens_size)) in
    record {
      slots_size = length-set slots k slot ∙ inv.slots_size;
      sizes = λ i h. set_cases (λ _ x. length x ≡ 1024) [] slots k slot (omega (arith, inv.slots_size)) e.size i (λ _. inv.sizes i h);
      lens_size = length-set lens k len ∙ inv.lens_size;
      within = λ i h. set_cases (λ _ x. x ≤ 792) 0 lens k len (omega (arith, inv.lens_size)) e.within i (λ ne. inv.within i (omega (arith, ne)));
      text = λ i h. elim (cases_lt i k) [
        | inl before ↦
            rw (get_or-set_other lens k i len 0 (λ e. omega arith), get_or-set_other slots k i slot [] (λ e. omega arith)) (inv.text i before)
        | inr past ↦
            let here : i ≡ k = omega arith in
            rw (here, same, of_len, of_slot) e.written
      ];
    }

pub compute_internal_node_hashes_in_slots-of_each-requires-clause-sizes : goal.compute_internal_node_hashes_in_slots-of_each-requires-clause-sizes
compute_internal_node_hashes_in_slots-of_each-requires-clause-sizes c = c.texts.invariant.sizes

pub hashes-preserved : goal.hashes-preserved
unfolding parent_hash
hashes-preserved c =
    let k = c.hashes.k in
    let inv = c.hashes.invariant in
    let hashes = c.hashes.hashes in
    let groups = c.args.groups.now in
    let places = c.args.places.now in
    let n : ℕ = length places in
    let at : ℕ = get_or places k 0 in
    let lens = c.texts.lens in
    let slots = c.texts.slots in
    let fits : at < length groups = c.requires.places.1 k c.hashes-test.true in
    let size : length (take n lens) ≡ n = length-take-le n lens (omega (arith, c.texts.invariant.lens_size, c.requires.places.0)) in
    let read = c.index-of_each-k.result in
    let value : get_or c.compute_internal_node_hashes_in_slots-of_each.result k read ≡ parent_hash (get_or (lent groups) at []) =
    get_or_default c.compute_internal_node_hashes_in_slots-of_each.result k read [] (omega (arith, c.requires.places.0, c.hashes-test.true))
    ∙ c.compute_internal_node_hashes_in_slots-of_each.ensures.hashes k (rw size c.hashes-test.true)
    ∙ ap (λ (text : List ℕ). hash_of (keyed_hash internal_key text))
    (ap (λ (len : ℕ). take len (get_or slots k [])) (get_or-take n lens k 0 c.hashes-test.true) ∙ c.texts.invariant.text k (omega arith)) in
    let new : List ℕ = get_or c.compute_internal_node_hashes_in_slots-of_each.result k read in
    let room : at < length hashes = omega (arith, inv.size, c.requires.groups) in
    let all : (j : ℕ) → (get_or hashes j [] ≡ parent_hash (get_or (lent groups) j [])) → get_or (set hashes at new) j [] ≡ parent_hash (get_or (lent groups) j []) = λ j old.
    set_cases (λ i x. x ≡ parent_hash (get_or (lent groups) i [])) [] hashes at new room value j (λ _. old) in
    record {
      size = length-set hashes at new ∙ inv.size;
      hashed = λ i h. elim (cases_lt i k) [
        | inl before ↦ all (get_or places i 0) (inv.hashed i before)
        | inr past ↦
            let here : i ≡ k = omega arith in
            rw here (get_or-set_same hashes at new [] room ∙ value)
      ];
      kept = λ j old. all j (inv.kept j old);
    }
