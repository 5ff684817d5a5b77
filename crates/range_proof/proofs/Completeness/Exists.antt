-- A range has a proof.
use Rattle.std.proofs.Common.{◌≡◌, ℕ, zero, suc, ◌-◌, ◌<◌, ◌≤◌, List, [], ◌∷◌, ◌++◌, length, map, take, drop, refl, sym, ap, subst, ◌∙◌, inl, inr, arith, append_assoc, append-nil, length-append, le_refl}
use Rattle.std.proofs.lemmas.Bool.{cases_lt}
use Rattle.std.proofs.lemmas.List.{length-map, append_cancel_left, same_from_push}
use Rattle.xet_roots.specs.Groups.{Node, Groups}
use Rattle.xet_roots.specs.Roots.{parent}
use Rattle.xet_roots.proofs.Lists.Places.{meets}
use Rattle.xet_roots.proofs.Lists.Places.Meets.{same, earlier, later}
use Rattle.xet_roots.proofs.Grouping.OneCutting.{Groups-exist}
use Rattle.xet_roots.proofs.Roots.OneRoot.{Groups-few}
use Rattle.level_nodes.specs.Level.{Level}
use Rattle.range_proof.specs.RangeProof.{Proof, AreSides, IsProofOf, joined}
use Rattle.range_proof.specs.RangeProof.AreSides.{one_node, beside}
use Rattle.range_proof.proofs.Completeness.Climb.{joined-append, parents_parts, parents_some}
use Rattle.range_proof.proofs.Completeness.OneProof.{IsLongFirst, IsLongLast, range_some}

-- ---- The groups before a range

record Front (groups : List (List Node)) (front : List Node) : Type 0 where
  before : List (List Node)
  rest : List (List Node)
  left : List Node
  parts : groups ≡ before ++ rest
  is_front : front ≡ joined before ++ left
  first : IsLongFirst rest left

Front-more : (group : List Node) (groups : List (List Node)) (front rest : List Node) → front ≡ group ++ rest → Front groups rest → Front (group ∷ groups) front
Front-more group groups front rest e f = record {
  before = group ∷ f.before;
  rest = f.rest;
  left = f.left;
  parts = ap (λ l. group ∷ l) f.parts;
  is_front = e ∙ ap (λ l. group ++ l) f.is_front ∙ sym (append_assoc group (joined f.before) f.left);
  first = f.first;
}

cut_front : (groups : List (List Node)) (front rest : List Node) → joined groups ≡ front ++ rest → 0 < length rest → Front groups front
cut_front [] front rest e some = absurd (let len = ap length e in omega (arith, length-append front rest))
cut_front (group ∷ groups) front rest e some = elim (meets group (joined groups) front rest e) [
  | same p q ↦ Front-more group groups front [] (sym p ∙ sym (append-nil group)) (cut_front groups [] rest q some)
  | earlier x gap p q ↦ Front-more group groups front (x ∷ gap) p (cut_front groups (x ∷ gap) rest q some)
  | later x gap p q ↦ record {
    before = [];
    rest = group ∷ groups;
    left = front;
    parts = refl;
    is_front = refl;
    first = λ one more f.
        let head : group ≡ one = cc in
        let len = ap length p in
        let len' = ap length head in
        omega (arith, length-append front (x ∷ gap));
  }
]

-- ---- The groups after a range

record Back (groups : List (List Node)) (back : List Node) : Type 0 where
  hit : List (List Node)
  after : List (List Node)
  right : List Node
  parts : groups ≡ hit ++ after
  is_back : back ≡ right ++ joined after
  some : 0 < length hit
  last : IsLongLast hit right

last_more : (group : List Node) (hit : List (List Node)) (right : List Node) → 0 < length hit → IsLongLast hit right → IsLongLast (group ∷ hit) right
last_more group hit right some last [] one e = absurd (let len = ap length e in omega arith)
last_more group hit right some last (other ∷ more) one e = last more one cc

last_of_one : (group right : List Node) → length right < length group → IsLongLast (group ∷ []) right
last_of_one group right long more one e =
    let head = ap length (same_from_push [] more group one e).1 in omega arith

cut_back : (groups : List (List Node)) (front back : List Node) → joined groups ≡ front ++ back → 0 < length front → Back groups back
cut_back [] front back e some = absurd (let len = ap length e in omega (arith, length-append front back))
cut_back (group ∷ groups) front back e some = elim (meets group (joined groups) front back e) [
  | same p q ↦ record {
    hit = group ∷ [];
    after = groups;
    right = [];
    parts = refl;
    is_back = sym q;
    some = omega arith;
    last = last_of_one group [] (let len = ap length p in omega arith);
  }
  | earlier x gap p q ↦
      let b = cut_back groups (x ∷ gap) back q (omega arith) in
      record {
        hit = group ∷ b.hit;
        after = b.after;
        right = b.right;
        parts = ap (λ l. group ∷ l) b.parts;
        is_back = b.is_back;
        some = omega arith;
        last = last_more group b.hit b.right b.some b.last;
      }
  | later x gap p q ↦ record {
    hit = group ∷ [];
    after = groups;
    right = x ∷ gap;
    parts = refl;
    is_back = q;
    some = omega arith;
    last = last_of_one group (x ∷ gap) (let len = ap length p in omega (arith, length-append front (x ∷ gap)));
  }
]

-- ---- All levels

front_apart : (before left range back : List Node) → (before ++ left) ++ range ++ back ≡ before ++ (left ++ range ++ back)
front_apart before left range back = simp append_assoc

sides_within : (bound : ℕ) (front range back : List Node) → length (front ++ range ++ back) ≤ bound → 0 < length range → (levels : List Level) × AreSides front range back levels
sides_within zero front range back h some = ([], one_node (omega arith))
sides_within (suc bound) front range back h some = elim (cases_lt (length (front ++ range ++ back)) 2) [
  | inl few ↦ ([], one_node (omega arith))
  | inr two ↦
      let cutting = Groups-exist (front ++ range ++ back) in
      let f = cut_front cutting.0 front (range ++ back) (cutting.1.joined ∙ append_assoc front range back) (omega (arith, length-append range back)) in
      let whole : joined f.before ++ joined f.rest ≡ joined f.before ++ (f.left ++ range ++ back) =
      sym (joined-append f.before f.rest) ∙ ap joined (sym f.parts) ∙ cutting.1.joined ∙ ap (λ l. l ++ range ++ back) f.is_front
      ∙ front_apart (joined f.before) f.left range back in
      let b = cut_back f.rest (f.left ++ range) back (append_cancel_left (joined f.before) _ _ whole) (omega (arith, length-append f.left range)) in
      let parts : cutting.0 ≡ f.before ++ b.hit ++ b.after = f.parts ∙ ap (λ l. f.before ++ l) b.parts ∙ sym (append_assoc f.before b.hit b.after) in
      let division : Groups (front ++ range ++ back) (f.before ++ b.hit ++ b.after) = subst (Groups (front ++ range ++ back)) parts cutting.1 in
      let few = Groups-few (front ++ range ++ back) (f.before ++ b.hit ++ b.after) division in
      let len = ap length (parents_parts f.before b.hit b.after) in
      let up = sides_within bound (map parent f.before) (map parent b.hit) (map parent b.after) (omega (arith, length-map (f.before ++ b.hit ++ b.after) parent)) (parents_some b.hit b.some) in (
        record { left = f.left; right = b.right } ∷ up.0,
        beside f.before b.hit b.after {levels = up.0} two division f.is_front b.is_back (λ group more e. f.first group (more ++ b.after) (b.parts ∙ ap (λ l. l ++ b.after) e)) b.last up.1,
      )
]

pub IsProofOf-exists : (nodes : List Node) (first end : ℕ) → first < end → end ≤ length nodes → (proof : Proof) × IsProofOf nodes first end proof
IsProofOf-exists nodes first end some within =
    let range = take (end - first) (drop first nodes) in
    let sides = sides_within _ (take first nodes) range (drop end nodes) (le_refl _) (range_some nodes first end some within) in
    (record { chunks = range; levels = sides.0 }, record { some = some; within = within; chunks = refl; sides = sides.1 })
