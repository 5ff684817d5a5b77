use Rattle.std.proofs.Common.{◌≡◌, ℕ, ◌+◌, ◌<◌, ◌≤◌, List, [], inl, inr, get_or, length, take, set, subst, ◌∙◌, arith, length-set}
use Rattle.std.proofs.lemmas.Bool.{cases_lt}
use Rattle.std.proofs.lemmas.List.{get_or-take, length-take-le}
use Rattle.xet_roots.specs.Groups.{Node}
use Rattle.xet_roots.specs.Roots.{parent_hash}
use Rattle.xet_roots.specs.Steps.Places.{IsSettled}
use Rattle.xet_roots.proofs.Lists.Lent.{lent}
use Rattle.xet_roots.proofs.Roots.Placed.{IsSettled-hashed, IsSettled-last, IsSettled-more, set_cases}
use Rattle.xet_roots.proofs.groups.parent_hashes.Goals as goal
use Rattle.xet_roots.proofs.groups.parent_hashes.Goals.{then-count-eq-SLOTS, else-count-eq-SLOTS}

pub hash_at-requires-clause-sizes : goal.hash_at-requires-clause-sizes
hash_at-requires-clause-sizes c = c.listed.invariant.sizes

pub hash_at-requires-2-clause-sizes : goal.hash_at-requires-2-clause-sizes
hash_at-requires-2-clause-sizes c = c.lens.invariant.sizes

pub listed-preserved : goal.listed-preserved
listed-preserved c =
    let groups : List (List Node) = lent c.args.groups.now in
    let hashes = c.listed.hashes in
    let places = c.listed.places in
    let n = c.listed.count in
    let i = c.listed.i in
    let list : List ℕ = get_or c.by_len.result.lists c.lens.len [] in
    let j : ℕ = get_or list i 0 in
    let inv = c.listed.invariant in
    let all : ℕ = length c.args.groups.now in
    let fits : n < length places = omega (arith, inv.size, inv.room) in
    let within : j < all = c.by_len.ensures.within c.lens.len i c.listed-test.true in
    let more : (k : ℕ) → IsSettled groups hashes places n k → IsSettled groups hashes (set places n j) (n + 1) k = λ k. IsSettled-more groups hashes places n j k in
    let last : IsSettled groups hashes (set places n j) (n + 1) j = IsSettled-last groups hashes places n j fits in
    let size : length (set places n j) ≡ 16 = length-set places n j ∙ inv.size in
    let each : (k : ℕ) → k < n + 1 → get_or (set places n j) k 0 < all = λ k h.
    set_cases (λ _ x. x < all) 0 places n j fits within k (λ ne. inv.places k (omega (arith, ne))) in
    let here : (k : ℕ) → k < i + 1 → IsSettled groups hashes (set places n j) (n + 1) (get_or list k 0) = λ k h. elim (cases_lt k i) [
      | inl before ↦ more (get_or list k 0) (inv.here k before)
      | inr past ↦
          let same : i ≡ k = omega arith in
          subst (λ (x : ℕ). IsSettled groups hashes (set places n j) (n + 1) (get_or list x 0)) same last
    ] in
    elim c.if-count-eq-SLOTS.branch [
      | then-count-eq-SLOTS w ↦
          let full = w.if-count-eq-SLOTS.true in
          let hashed : (k : ℕ) → k < n + 1 → get_or w.hash_at.new.hashes (get_or (set places n j) k 0) [] ≡ parent_hash (get_or groups (get_or (set places n j) k 0) []) = λ k h.
          w.hash_at.ensures.hashed k (omega arith) in
          let made : (k : ℕ) → IsSettled groups hashes (set places n j) (n + 1) k
          → IsSettled groups c.if-count-eq-SLOTS.hashes (set places n j) c.if-count-eq-SLOTS.count k = λ k settled.
          inl (rw w.hashes-is (IsSettled-hashed groups hashes (set places n j) (n + 1) w.hash_at.new.hashes k hashed w.hash_at.ensures.kept settled)) in
          record {
            sizes = rw w.slots-is w.hash_at.ensures.sizes;
            size = size;
            room = rw w.count-is (omega arith);
            places = rw w.count-is (λ k h. absurd (omega arith));
            settled = λ l k low h. made (get_or (get_or c.by_len.result.lists l []) k 0) (more (get_or (get_or c.by_len.result.lists l []) k 0) (inv.settled l k low h));
            here = λ k h. made (get_or list k 0) (here k h);
          }
      | else-count-eq-SLOTS w ↦
          let few = w.if-count-eq-SLOTS.false in
          record {
            sizes = rw w.slots-is inv.sizes;
            size = size;
            room = rw w.count-is (omega (arith, inv.room));
            places = rw w.count-is each;
            settled = rw (w.hashes-is, w.count-is)
                (λ l k low h. more (get_or (get_or c.by_len.result.lists l []) k 0) (inv.settled l k low h));
            here = rw (w.hashes-is, w.count-is) here;
          }
    ]

pub returns : goal.returns
returns c = λ j h.
    let groups : List (List Node) = lent c.args.groups.now in
    let lists = c.by_len.result.lists in
    let len : ℕ = length (get_or groups j []) in
    let listed = c.by_len.ensures.listed j h in
    let k : ℕ = listed.0 in
    let few : len ≤ 9 = c.requires.few j h in
    let end : c.lens.len ≡ 10 = omega arith in
    let n = c.lens.count in
    let places = c.lens.places in
    let new = c.hash_at-2.new.hashes in
    let inv = c.lens.invariant in
    let size : length (take n places) ≡ n = length-take-le n places (omega (arith, inv.size, inv.room)) in
    let hashed : (i : ℕ) → i < n → get_or new (get_or places i 0) [] ≡ parent_hash (get_or groups (get_or places i 0) []) = λ i below.
    subst (λ (p : ℕ). get_or new p [] ≡ parent_hash (get_or groups p [])) (get_or-take n places i 0 below) (c.hash_at-2.ensures.hashed i (rw size below)) in
    let settled : IsSettled groups c.lens.hashes places n j =
    subst (λ (p : ℕ). IsSettled groups c.lens.hashes places n p) listed.2 (inv.settled len k (omega arith) listed.1) in
    IsSettled-hashed groups c.lens.hashes places n new j hashed c.hash_at-2.ensures.kept settled
