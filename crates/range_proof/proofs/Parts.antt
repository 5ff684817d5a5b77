-- Lists of nodes and of groups in parts.
use Rattle.std.proofs.Common.{◌≡◌, ℕ, ◌+◌, ◌<◌, ◌^◌, List, [], ◌∷◌, ◌++◌, map, take, drop, refl, sym, ap, subst, ◌∙◌, arith}
use Rattle.std.specs.List.{AllByRecursion, sum_by}
use Rattle.std.proofs.lemmas.List.{take-map, drop-map}
use Rattle.std.proofs.lemmas.List.Sums.{sum_by-cons}
use Rattle.xet_roots.specs.Groups.{Node}
use Rattle.xet_roots.specs.Roots.{total_size, parent}
use Rattle.xet_roots.proofs.Roots.Making.{total_size-append}
use Rattle.commitment.proofs.Commitment.Texts.{AllSizes}
use Rattle.commitment.proofs.Commitment.Messages.{each_front, each_back}
use Rattle.range_proof.specs.RangeProof.{joined}

-- the parts of a list whose images are given in parts
record InTwo {X Y : Type 0} (f : X → Y) (xs : List X) (front back : List Y) : Type 0 where
  first : List X
  second : List X
  parts : xs ≡ first ++ second
  is_front : map f first ≡ front
  is_back : map f second ≡ back

in_two : {X Y : Type 0} (f : X → Y) (xs : List X) (front back : List Y) → map f xs ≡ front ++ back → InTwo f xs front back
in_two f xs [] back e = record { first = []; second = xs; parts = refl; is_front = refl; is_back = e }
in_two f [] (y ∷ front) back e = cc e
in_two f (x ∷ xs) (y ∷ front) back e =
    let tails : map f xs ≡ front ++ back = cc in
    let heads : f x ≡ y = cc in
    let rest = in_two f xs front back tails in
    record {
      first = x ∷ rest.first;
      second = rest.second;
      parts = ap (λ l. x ∷ l) rest.parts;
      is_front = (let front_is = rest.is_front in cc);
      is_back = rest.is_back;
    }

pub record InThree {X Y : Type 0} (f : X → Y) (xs : List X) (front range back : List Y) : Type 0 where
  pub first : List X
  pub middle : List X
  pub last : List X
  pub parts : xs ≡ first ++ (middle ++ last)
  pub is_front : map f first ≡ front
  pub is_range : map f middle ≡ range
  pub is_back : map f last ≡ back

pub in_three : {X Y : Type 0} (f : X → Y) (xs : List X) (front range back : List Y) → map f xs ≡ front ++ (range ++ back) → InThree f xs front range back
in_three f xs front range back e =
    let outer = in_two f xs front (range ++ back) e in
    let inner = in_two f outer.second range back outer.is_back in
    record {
      first = outer.first;
      middle = inner.first;
      last = inner.second;
      parts = outer.parts ∙ ap (λ l. outer.first ++ l) inner.parts;
      is_front = outer.is_front;
      is_range = inner.is_front;
      is_back = inner.is_back;
    }

-- what holds of each element, holds of each in the middle
pub each_middle : {X Y : Type 0} {f : X → Y} {xs : List X} {front range back : List Y} (P : X → Type 0) (s : InThree f xs front range back) →
    AllByRecursion P xs → AllByRecursion P s.middle
each_middle P s h = each_front P s.middle s.last (each_back P s.first (s.middle ++ s.last) (subst (AllByRecursion P) s.parts h))

-- the images of a part of a list
pub map_part : {X Y : Type 0} (f : X → Y) (n k : ℕ) (xs : List X) → map f (take n (drop k xs)) ≡ take n (drop k (map f xs))
map_part f n k xs = sym (ap (take n) (drop-map f k xs) ∙ take-map f n (drop k xs))

-- ---- Sizes

-- parents have the sizes of their groups' nodes
pub total_size-parents : (groups : List (List Node)) → total_size (map parent groups) ≡ total_size (joined groups)
total_size-parents [] = refl
total_size-parents (group ∷ groups) =
    sum_by-cons (λ (node : Node). node.1) (parent group) (map parent groups)
    ∙ ap (λ (n : ℕ). total_size group + n) (total_size-parents groups)
    ∙ sym (total_size-append group (joined groups))

-- each size is within the sum
pub AllSizes-total : (nodes : List Node) → total_size nodes < 2 ^ 64 → AllSizes nodes
AllSizes-total [] fits = tt
AllSizes-total (node ∷ nodes) fits =
    let sum = sum_by-cons (λ (n : Node). n.1) node nodes in
    (omega arith, AllSizes-total nodes (omega arith))

-- a sum of sums
pub sum_by-add : {X : Type 0} (f g : X → ℕ) (xs : List X) → sum_by (λ x. f x + g x) xs ≡ sum_by f xs + sum_by g xs
sum_by-add f g [] = refl
sum_by-add f g (x ∷ xs) =
    omega (arith, sum_by-cons (λ y. f y + g y) x xs, sum_by-cons f x xs, sum_by-cons g x xs, sum_by-add f g xs)
