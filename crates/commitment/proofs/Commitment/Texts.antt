-- A group's text says its nodes: the hash of each, and its size.
use Rattle.std.proofs.Common.{◌≡◌, ℕ, zero, suc, ◌+◌, ◌/◌, ◌%◌, ◌^◌, ◌<◌, ◌≤◌, true, false, Bool, if◌then◌else◌, eqb, List, [], ◌∷◌, ◌++◌, length, map, refl, sym, ap, ◌∙◌, inl, inr, arith, append_assoc, length-append, pow-suc, ne_eqb}
use Rattle.std.specs.Fmt.{decimal, digits, digits_onto, digit_glyph}
use Rattle.std.specs.List.{AllByRecursion}
use Rattle.std.proofs.lemmas.Bool.{cases_lt}
use Rattle.std.proofs.lemmas.Bool.Decides.{nat_tests}
use Rattle.std.proofs.lemmas.Fmt.{decimal_is_IsNumeral_wide, length-decimal-le}
use Rattle.std.specs.Str.Parse.{digits_value}
use Rattle.xet_hash.specs.Hash.{IsHash, hex_text}
use Rattle.xet_hash.proofs.Hash.Laws.{hex_text-injective, IsHexText-hex_text}
use Rattle.xet_roots.specs.Groups.{Node}
use Rattle.xet_roots.specs.Roots.{node_line, group_text}

-- the hashes of some nodes
abbrev pub hashes : List Node → List (List ℕ)
hashes nodes = map (λ node. node.0) nodes

-- each node's hash is four words below 2 ^ 64
abbrev pub AllHashes : List Node → Type 0
AllHashes nodes = AllByRecursion (λ node. IsHash node.0) nodes

-- each node's size fits 64 bits
abbrev pub AllSizes : List Node → Type 0
AllSizes nodes = AllByRecursion (λ node. node.1 < 2 ^ 64) nodes

-- ---- The numbers of a text

abbrev NoNewline : List ℕ → Type 0
NoNewline text = AllByRecursion (λ c. c ≡ 10 → ⊥) text

glyph_is_no_newline : (d : ℕ) → d < 10 → digit_glyph false d ≡ 10 → ⊥
glyph_is_no_newline d small e = grind (arith, nat_tests)

NoNewline-either : (b : Bool) (x y : List ℕ) → NoNewline x → NoNewline y → NoNewline (if b then x else y)
NoNewline-either true x y h k = h
NoNewline-either false x y h k = k

NoNewline-digits_onto : (k n : ℕ) (after : List ℕ) → NoNewline after → NoNewline (digits_onto k 10 false n after)
NoNewline-digits_onto zero n after h = h
NoNewline-digits_onto (suc k) n after h =
    let glyph = digit_glyph false (n % 10) in
    let more : NoNewline (glyph ∷ after) = (glyph_is_no_newline (n % 10) (omega arith), h) in
    NoNewline-either (eqb (n / 10) 0) (glyph ∷ after) _ more (NoNewline-digits_onto k (n / 10) (glyph ∷ after) more)

-- a number has no newline, however large it is
NoNewline-decimal : (n : ℕ) → NoNewline (decimal n)
unfolding digits
NoNewline-decimal n = NoNewline-digits_onto 64 n [] tt

ten_pos : (k : ℕ) → 0 < 10 ^ k
ten_pos zero = omega arith
ten_pos (suc k) = let some = ten_pos k in omega (arith, pow-suc 10 k)

-- a number with more than k digits fills k places
length-digits_onto : (k n : ℕ) (after : List ℕ) → 10 ^ k ≤ n → length (digits_onto k 10 false n after) ≡ k + length after
length-digits_onto zero n after h = omega arith
length-digits_onto (suc k) n after h =
    let large : 10 ^ k ≤ n / 10 = omega (arith, pow-suc 10 k) in
    let some : 0 < 10 ^ k = ten_pos k in
    let longer = length-digits_onto k (n / 10) (digit_glyph false (n % 10) ∷ after) large in
    rw (ne_eqb (n / 10) 0 (λ e. omega arith)) (omega arith)

length-decimal_long : (n : ℕ) → 10 ^ 64 ≤ n → length (decimal n) ≡ 64
unfolding digits
length-decimal_long n long = length-digits_onto 64 n [] long

-- a number of 64 bits is told from every other number by its text
pub decimal_tells_sizes : (m n : ℕ) → m < 2 ^ 64 → decimal m ≡ decimal n → m ≡ n
decimal_tells_sizes m n fits e = elim (cases_lt n (10 ^ 64)) [
  | inl short ↦ sym (decimal_is_IsNumeral_wide m (omega arith)).1 ∙ ap (digits_value 10) e ∙ (decimal_is_IsNumeral_wide n short).1
  | inr long ↦ absurd (let len = ap length e in omega (arith, length-decimal_long n long, length-decimal-le 20 m (omega arith) (omega arith) fits))
]

-- ---- Cutting a text

-- two texts with no newline, each before one
same_before_newline : (xs ys r s : List ℕ) → NoNewline xs → NoNewline ys → xs ++ 10 ∷ r ≡ ys ++ 10 ∷ s → (xs ≡ ys) × (r ≡ s)
same_before_newline [] [] r s h k e = (refl, cc)
same_before_newline [] (y ∷ ys) r s h k e = absurd (k.0 cc)
same_before_newline (x ∷ xs) [] r s h k e = absurd (h.0 cc)
same_before_newline (x ∷ xs) (y ∷ ys) r s h k e =
    let tails : xs ++ 10 ∷ r ≡ ys ++ 10 ∷ s = cc in
    let heads : x ≡ y = cc in
    let same = same_before_newline xs ys r s h.1 k.1 tails in
    let front = same.0 in (cc, same.1)

-- two fronts of one length
pub same_fronts : {A : Type 0} (xs ys r s : List A) → length xs ≡ length ys → xs ++ r ≡ ys ++ s → (xs ≡ ys) × (r ≡ s)
same_fronts [] [] r s len e = (refl, e)
same_fronts [] (y ∷ ys) r s len e = absurd (omega arith)
same_fronts (x ∷ xs) [] r s len e = absurd (omega arith)
same_fronts (x ∷ xs) (y ∷ ys) r s len e =
    let tails : xs ++ r ≡ ys ++ s = cc in
    let heads : x ≡ y = cc in
    let same = same_fronts xs ys r s (omega arith) tails in
    let front = same.0 in (cc, same.1)

-- ---- Lines

line_before : (node : Node) (rest : List ℕ) → node_line node ++ rest ≡ hex_text node.0 ++ (32 ∷ 58 ∷ 32 ∷ (decimal node.1 ++ 10 ∷ rest))
unfolding node_line
line_before node rest = simp append_assoc

-- the first line of a text says the first node
same_lines : (a b : Node) (r s : List ℕ) → IsHash a.0 → IsHash b.0 → node_line a ++ r ≡ node_line b ++ s →
    (a.0 ≡ b.0) × (decimal a.1 ≡ decimal b.1) × (r ≡ s)
same_lines a b r s ha hb e =
    let whole = sym (line_before a r) ∙ e ∙ line_before b s in
    let len : length (hex_text a.0) ≡ length (hex_text b.0) = omega (arith, (IsHexText-hex_text a.0 ha).0.0, (IsHexText-hex_text b.0 hb).0.0) in
    let cut = same_fronts (hex_text a.0) (hex_text b.0) _ _ len whole in
    let after : decimal a.1 ++ 10 ∷ r ≡ decimal b.1 ++ 10 ∷ s = cc (cut.1) in
    let sizes = same_before_newline (decimal a.1) (decimal b.1) r s (NoNewline-decimal a.1) (NoNewline-decimal b.1) after in
    (hex_text-injective a.0 b.0 ha hb cut.0, sizes.0, sizes.1)

length-line : (node : Node) (rest : List ℕ) → 0 < length (node_line node ++ rest)
length-line node rest = rw (line_before node rest) (omega (arith, length-append (hex_text node.0) (32 ∷ 58 ∷ 32 ∷ (decimal node.1 ++ 10 ∷ rest))))

-- ---- Texts

-- a group's text says the hashes of its nodes
pub group_text_tells_hashes : (group other : List Node) → AllHashes group → AllHashes other → group_text group ≡ group_text other →
    hashes group ≡ hashes other
group_text_tells_hashes [] [] h k e = refl
group_text_tells_hashes [] (b ∷ other) h k e = absurd (let len = ap length e in omega (arith, length-line b (group_text other)))
group_text_tells_hashes (a ∷ group) [] h k e = absurd (let len = ap length e in omega (arith, length-line a (group_text group)))
group_text_tells_hashes (a ∷ group) (b ∷ other) h k e =
    let line = same_lines a b (group_text group) (group_text other) h.0 k.0 e in
    let head = line.0 in
    let tail = group_text_tells_hashes group other h.1 k.1 line.2 in cc

-- a group's text says its nodes, if their sizes fit 64 bits: no other group has it
pub group_text_tells_nodes : (group other : List Node) → AllHashes group → AllSizes group → AllHashes other → group_text group ≡ group_text other →
    group ≡ other
group_text_tells_nodes [] [] h fits k e = refl
group_text_tells_nodes [] (b ∷ other) h fits k e = absurd (let len = ap length e in omega (arith, length-line b (group_text other)))
group_text_tells_nodes (a ∷ group) [] h fits k e = absurd (let len = ap length e in omega (arith, length-line a (group_text group)))
group_text_tells_nodes (a ∷ group) (b ∷ other) h fits k e =
    let line = same_lines a b (group_text group) (group_text other) h.0 k.0 e in
    let hash = line.0 in
    let size = decimal_tells_sizes a.1 b.1 fits.0 line.1 in
    let head : a ≡ b = λ i. (hash i, size i) in
    let tail = group_text_tells_nodes group other h.1 fits.1 k.1 line.2 in cc
