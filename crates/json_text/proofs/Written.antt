-- What is written for a value is nested no deeper than the value.
use Rattle.std.proofs.Common.{arith, ◌≡◌, ◌≢◌, ◌≤◌, ◌<◌, ◌/◌, ◌%◌, ℕ, zero, suc, ◌+◌, ◌-◌, max, pos, negsuc, Bool, true, false, cond, ◌==◌, List, [], ◌∷◌, ◌++◌, decimal, mod-lt, nat_lt, rules, refl, sym, ap, subst, append_assoc, append-nil, ◌⊎◌, inl, inr}
use Rattle.std.specs.Fmt.{digit_glyph, digits, digits_onto}
use Rattle.std.proofs.lemmas.Bool.{cases_eq, cases_lt, ne_eqb}
use Rattle.std.specs.Char.{digit_char}
use Rattle.json.specs.Print.{escape, escape_byte, escape_letter, quoted}
use Rattle.serde_json.specs.Data.{Num, unsigned, negative, float, Data, null, boolean, number, string, array, object, Items, no_items, item, Members, no_members, member, depth, items_depth, members_depth}
use Rattle.json.specs.Tree as tree
use Rattle.serde_json.specs.Written.{number_text, comma_if, compact_text, items_text, members_text, outline, items_outline, members_outline}
use Rattle.json_text.specs.JsonText.{IsShallow}
use Rattle.json_text.specs.Nesting.{after, deepest, nesting}
use Rattle.json_text.specs.declared.nesting.Place.TheVariants.{Outside, InString}

-- a part of a text opens at most so many brackets at once, and closes what it opens
abbrev Nests : ℕ → List ℕ → Type 0
Nests most text = (unclosed : ℕ) (rest : List ℕ) → deepest (Outside, unclosed) (text ++ rest) ≤ max (unclosed + most) (deepest (Outside, unclosed) rest)

both : (most : ℕ) (front back : List ℕ) → Nests most front → Nests most back → Nests most (front ++ back)
both most front back first then unclosed rest =
    let joined = ap (deepest (Outside, unclosed)) (append_assoc front back rest) in
    omega (arith, joined, first unclosed (back ++ rest), then unclosed rest)

more : (few most : ℕ) (text : List ℕ) → few ≤ most → Nests few text → Nests most text
more few most text le nests unclosed rest = omega (arith, nests unclosed rest)

-- ---- numbers

-- a byte that is part of no string opens and closes nothing
abbrev IsPlain : ℕ → Type 0
IsPlain byte = (unclosed : ℕ) → after (Outside, unclosed) byte ≡ (Outside, unclosed)

digit_plain : (byte : ℕ) → 48 ≤ byte → byte ≤ 57 → IsPlain byte
digit_plain byte least most unclosed = rw (
  ne_eqb byte 34 (λ e. omega arith),
  ne_eqb byte 91 (λ e. omega arith),
  ne_eqb byte 123 (λ e. omega arith),
  ne_eqb byte 93 (λ e. omega arith),
  ne_eqb byte 125 (λ e. omega arith),
) refl

plain_then : (byte : ℕ) (text : List ℕ) → IsPlain byte → Nests 0 text → Nests 0 (byte ∷ text)
plain_then byte text plain nests unclosed rest =
    let next = ap (λ at. deepest at (text ++ rest)) (plain unclosed) in
    omega (arith, next, nests unclosed rest)

nothing : Nests 0 []
nothing unclosed rest = omega arith

glyph_digit : (n : ℕ) → n < 10 → digit_glyph false n ≡ 48 + n
glyph_digit n small = search rules

decimal_onto : (k n : ℕ) (text : List ℕ) → Nests 0 text → Nests 0 (digits_onto k 10 false n text)
decimal_onto zero n text nests = nests
decimal_onto (suc k) n text nests =
    let small : n % 10 < 10 = (let positive : 0 < 10 = omega arith in mod-lt n positive) in
    let glyph = glyph_digit (n % 10) small in
    let digit = plain_then (digit_glyph false (n % 10)) text (subst IsPlain (sym glyph) (digit_plain (48 + n % 10) (omega arith) (omega arith))) nests in
    either (n / 10 == 0) _ _ digit (decimal_onto k (n / 10) _ digit)
  where
    either : (b : Bool) (xs ys : List ℕ) → Nests 0 xs → Nests 0 ys → Nests 0 (cond b xs ys)
    either true xs ys p q = p
    either false xs ys p q = q

decimal_nests : (n : ℕ) → Nests 0 (decimal n)
unfolding digits
decimal_nests n = decimal_onto 64 n [] nothing

number_nests : (n : Num) → Nests 0 (number_text n)
number_nests (unsigned n) = decimal_nests n
number_nests (negative (pos n)) = decimal_nests n
number_nests (negative (negsuc n)) = plain_then 45 (decimal (suc n)) (λ unclosed. refl) (decimal_nests (suc n))
number_nests (float x) = nothing

-- ---- strings

-- a part of a string stays in the string
abbrev Stays : List ℕ → Type 0
Stays text = (unclosed : ℕ) (rest : List ℕ) → deepest (InString, unclosed) (text ++ rest) ≤ max unclosed (deepest (InString, unclosed) rest)

-- a byte that doesn't end a string, and takes the next byte into no escape
inner_byte : (byte : ℕ) (text : List ℕ) → byte ≢ 34 → byte ≢ 92 → Stays text → Stays (byte ∷ text)
inner_byte byte text quote backslash stays unclosed rest =
    let at : after (InString, unclosed) byte ≡ (InString, unclosed) = rw (ne_eqb byte 34 quote, ne_eqb byte 92 backslash) refl in
    let next = ap (λ at. deepest at (text ++ rest)) at in
    omega (arith, next, stays unclosed rest)

low_digit : (digit : ℕ) → digit < 10 → digit_char digit ≡ 48 + digit
low_digit digit few = search rules

high_digit : (digit : ℕ) → 10 ≤ digit → digit_char digit ≡ 87 + digit
high_digit digit many = search rules

inner_digit : (digit : ℕ) (text : List ℕ) → Stays text → Stays (digit_char digit ∷ text)
inner_digit digit text stays = by (cases_lt digit 10)
  where
    by : (digit < 10) ⊎ (10 ≤ digit) → Stays (digit_char digit ∷ text)
    by (inl few) = subst (λ x. Stays (x ∷ text)) (sym (low_digit digit few)) (inner_byte (48 + digit) text (λ e. omega arith) (λ e. omega arith) stays)
    by (inr many) = subst (λ x. Stays (x ∷ text)) (sym (high_digit digit many)) (inner_byte (87 + digit) text (λ e. omega arith) (λ e. omega arith) stays)

no_more : Stays []
no_more unclosed rest = omega arith

escaped : (letter : ℕ) (text : List ℕ) → Stays text → Stays (92 ∷ letter ∷ text)
escaped letter text stays unclosed rest = omega (arith, stays unclosed rest)

control : (byte : ℕ) → Stays (92 ∷ 117 ∷ 48 ∷ 48 ∷ digit_char (byte / 16) ∷ digit_char (byte % 16) ∷ [])
control byte =
    let last : List ℕ = digit_char (byte % 16) ∷ [] in
    let digits : List ℕ = digit_char (byte / 16) ∷ last in
    let zero_byte = λ (text : List ℕ) (stays : Stays text). inner_byte 48 text (λ e. omega arith) (λ e. omega arith) stays in
    escaped 117 (48 ∷ 48 ∷ digits) (zero_byte (48 ∷ digits) (zero_byte digits (inner_digit (byte / 16) last (inner_digit (byte % 16) [] no_more))))

escape_stays : (byte : ℕ) → Stays (escape_byte byte)
unfolding escape_byte
escape_stays byte = go (cases_eq byte 34) (cases_eq byte 92)
  where
    by : (byte ≢ 34) → (byte ≢ 92) → (letter short : Bool)
        → Stays (cond letter (92 ∷ escape_letter byte ∷ []) (cond short (92 ∷ 117 ∷ 48 ∷ 48 ∷ digit_char (byte / 16) ∷ digit_char (byte % 16) ∷ []) (byte ∷ [])))
    by quote backslash true short = escaped (escape_letter byte) [] no_more
    by quote backslash false true = control byte
    by quote backslash false false = inner_byte byte [] quote backslash no_more

    go : (byte ≡ 34) ⊎ (byte ≢ 34) → (byte ≡ 92) ⊎ (byte ≢ 92) → Stays (escape_byte byte)
    go (inl e) other = subst (λ b. Stays (escape_byte b)) (sym e) (escaped 34 [] no_more)
    go (inr quote) (inl e) = subst (λ b. Stays (escape_byte b)) (sym e) (escaped 92 [] no_more)
    go (inr quote) (inr backslash) = by quote backslash (nat_lt 0 (escape_letter byte)) (nat_lt byte 32)

content_stays : (bytes : List ℕ) → Stays (escape bytes)
content_stays [] unclosed rest = no_more unclosed rest
content_stays (byte ∷ bytes) unclosed rest =
    let joined = ap (deepest (InString, unclosed)) (append_assoc (escape_byte byte) (escape bytes) rest) in
    omega (arith, joined, escape_stays byte unclosed (escape bytes ++ rest), content_stays bytes unclosed rest)

string_nests : (bytes : List ℕ) → Nests 0 (quoted bytes)
string_nests bytes unclosed rest =
    let joined = ap (deepest (InString, unclosed)) (append_assoc (escape bytes) (34 ∷ []) rest) in
    omega (arith, joined, content_stays bytes unclosed (34 ∷ rest))

-- ---- values

null_nests : Nests 0 (compact_text null)
null_nests unclosed rest = omega arith

truth_nests : (b : Bool) → Nests 0 (compact_text (boolean b))
truth_nests true unclosed rest = omega arith
truth_nests false unclosed rest = omega arith

comma_nests : (later : Bool) → Nests 0 (comma_if later)
comma_nests true = plain_then 44 [] (λ unclosed. refl) nothing
comma_nests false = nothing

-- the rest of an array or an object, with the closing bracket
abbrev Closes : ℕ → List ℕ → Type 0
Closes most text = (unclosed : ℕ) (rest : List ℕ) → deepest (Outside, suc unclosed) (text ++ rest) ≤ max (suc unclosed + most) (deepest (Outside, unclosed) rest)

then_closes : (most : ℕ) (front back : List ℕ) → Nests most front → Closes most back → Closes most (front ++ back)
then_closes most front back first then unclosed rest =
    let joined = ap (deepest (Outside, suc unclosed)) (append_assoc front back rest) in
    omega (arith, joined, first (suc unclosed) (back ++ rest), then unclosed rest)

closes_more : (few most : ℕ) (text : List ℕ) → few ≤ most → Closes few text → Closes most text
closes_more few most text le closes unclosed rest = omega (arith, closes unclosed rest)

one_less : (unclosed : ℕ) → suc unclosed - 1 ≡ unclosed
one_less unclosed = omega arith

closing : (byte : ℕ) → ((unclosed : ℕ) → after (Outside, suc unclosed) byte ≡ (Outside, unclosed)) → Closes 0 (byte ∷ [])
closing byte closes unclosed rest =
    let next = ap (λ at. deepest at rest) (closes unclosed) in
    omega (arith, next)

bracket : (byte most : ℕ) (text : List ℕ) → ((unclosed : ℕ) → after (Outside, unclosed) byte ≡ (Outside, suc unclosed)) → Closes most text
    → Nests (suc most) (byte ∷ text)
bracket byte most text opens closes unclosed rest =
    let next = ap (λ at. deepest at (text ++ rest)) (opens unclosed) in
    omega (arith, next, closes unclosed rest)

mutual
  value_nests : (value : Data) → Nests (depth value) (compact_text value)
  value_nests null = null_nests
  value_nests (boolean b) = truth_nests b
  value_nests (number n) = number_nests n
  value_nests (string bytes) = string_nests bytes
  value_nests (array items) = bracket 91 (items_depth items) (items_text false items) (λ unclosed. refl) (items_close false items)
  value_nests (object members) = bracket 123 (members_depth members) (members_text false members) (λ unclosed. refl) (members_close false members)

  items_close : (later : Bool) (items : Items) → Closes (items_depth items) (items_text later items)
  items_close later no_items = closing 93 (λ unclosed. ap (λ n. (Outside, n)) (one_less unclosed))
  items_close later (item value items) =
      let most = max (depth value) (items_depth items) in
      then_closes most (comma_if later) _ (more 0 most (comma_if later) (omega arith) (comma_nests later))
      (then_closes most (compact_text value) (items_text true items) (more (depth value) most (compact_text value) (omega arith) (value_nests value))
      (closes_more (items_depth items) most (items_text true items) (omega arith) (items_close true items)))

  members_close : (later : Bool) (members : Members) → Closes (members_depth members) (members_text later members)
  members_close later no_members = closing 125 (λ unclosed. ap (λ n. (Outside, n)) (one_less unclosed))
  members_close later (member key value members) =
      let most = max (depth value) (members_depth members) in
      then_closes most (comma_if later) _ (more 0 most (comma_if later) (omega arith) (comma_nests later))
      (then_closes most (quoted key) _ (more 0 most (quoted key) (omega arith) (string_nests key))
      (then_closes most (58 ∷ []) _ (more 0 most (58 ∷ []) (omega arith) (plain_then 58 [] (λ unclosed. refl) nothing))
      (then_closes most (compact_text value) (members_text true members) (more (depth value) most (compact_text value) (omega arith) (value_nests value))
      (closes_more (members_depth members) most (members_text true members) (omega arith) (members_close true members)))))

written_nests : (value : Data) → nesting (compact_text value) ≤ depth value
written_nests value =
    let whole = ap (deepest (Outside, 0)) (append-nil (compact_text value)) in
    omega (arith, whole, value_nests value 0 [])

pub written_shallow : (value : Data) → depth value ≤ 32 → IsShallow (compact_text value)
written_shallow value few = omega (arith, written_nests value, few)

-- ---- the value as JSON is nested as deep as the value

mutual
  outline_depth : (value : Data) → tree.depth (outline value) ≡ depth value
  outline_depth null = refl
  outline_depth (boolean b) = refl
  outline_depth (number n) = refl
  outline_depth (string bytes) = refl
  outline_depth (array items) = ap suc (items_outline_depth items)
  outline_depth (object members) = ap suc (members_outline_depth members)

  items_outline_depth : (items : Items) → tree.items_depth (items_outline items) ≡ items_depth items
  items_outline_depth no_items = refl
  items_outline_depth (item value items) = omega (arith, outline_depth value, items_outline_depth items)

  members_outline_depth : (members : Members) → tree.members_depth (members_outline members) ≡ members_depth members
  members_outline_depth no_members = refl
  members_outline_depth (member key value members) = omega (arith, outline_depth value, members_outline_depth members)

pub outline_shallow : (value : Data) → tree.depth (outline value) ≤ 32 → IsShallow (compact_text value)
outline_shallow value few = written_shallow value (omega (arith, outline_depth value, few))
