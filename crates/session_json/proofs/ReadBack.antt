-- The text that is written for a subtree or a session is UTF-8, and it reads as its JSON value, in which no member stands twice.
use Rattle.std.proofs.Common.{arith, ◌≡◌, ◌≢◌, ℕ, suc, ◌^◌, ◌<◌, ◌≤◌, ◌+◌, Bool, true, false, List, [], ◌∷◌, ◌++◌, map, codes, decimal, IsUtf8, Some, Option, option_map, option_and_then, refl, sym, ap, subst, ◌∙◌, append-nil}
use Rattle.std.specs.Prelude.{All, if◌then◌else◌}
use Rattle.std.specs.Str.{bytes_eq}
use Rattle.std.proofs.lemmas.Bool.{false≢true}
use Rattle.std.proofs.lemmas.Slice.Eq.{bytes_eq-Decides}
use Rattle.std.specs.List.{AllByRecursion}
use Rattle.std.proofs.lemmas.List.Elements.{All-cons, All-nil}
use Rattle.std.proofs.lemmas.List.Kept.{AllPairs-cons}
use Rattle.std.proofs.lemmas.Fmt.{IsAscii-decimal}
use Rattle.std.proofs.lemmas.List.Sums.{sum_by-cons}
use Rattle.std.proofs.lemmas.Str.{IsUtf8-append, IsUtf8-from_ascii}
use Rattle.json.specs.Json as json
use Rattle.json.specs.Lex.{tokens}
use Rattle.json.specs.Print.{escape, escape_byte, token_text}
use Rattle.json.specs.Strict.{AreDistinct, HasUniqueKeys, ItemsHaveUniqueKeys}
use Rattle.json.specs.Token as token
use Rattle.json.specs.Tree as tree
use Rattle.json.proofs.Printed.Decimals.{IsNumber-decimal}
use Rattle.json.proofs.Printed.Tokens.{tokens-print}
use Rattle.json.proofs.Printed.Trees.{value-json_tokens, ArePrintable-json_tokens}
use Rattle.json.proofs.Printed.Utf8.{are_ascii, IsUtf8-are_ascii, IsUtf8-boolean}
use Rattle.serde_json.specs.Data.{Data, number, array, Items}
use Rattle.serde_json.specs.Read.{of_json, of_items, max_depth, read}
use Rattle.serde_json.specs.View.{items_of}
use Rattle.serde_json.specs.Written.{outline, items_outline, comma_if, compact_text, items_text}
use Rattle.serde_json.proofs.Numbers.{number_of-decimal}
use Rattle.serde_json.proofs.Texts.{print-outline}
use Rattle.json_text.specs.JsonText.{IsShallow}
use Rattle.json_text.proofs.Written.{outline_shallow}
use Rattle.xet_hash.specs.Hash.{hex_text}
use Rattle.xet_roots.specs.Groups.{Node}
use Rattle.xet_roots.specs.Roots.{total_size}
use Rattle.level_nodes.specs.FlatLevels.{count_of, count_sum, flat_nodes}
use Rattle.level_nodes.specs.NodeJson.{number_json, node_json, nodes_json}
use Rattle.subtree_levels.specs.Levels.{Level, node_count}
use Rattle.subtree_levels.specs.Subtree.{Subtree}
use Rattle.xet_merkle.specs.SubtreeJson.{counts_json, subtree_json}
use Rattle.session_json.specs.Reading.{IsStrictText}
use Rattle.session_json.proofs.HexText.{escape-hex_text, IsUtf8-hex_text}

-- the text is UTF-8, and what is written for a value is read as another one, whose objects have their members in order, and nests no
-- deeper than this
pub record IsReadAs (most : ℕ) (d read : Data) : Type 0 where
  pub utf8 : IsUtf8 (compact_text d)
  pub reads : of_json (outline d) ≡ Some read
  pub numbers : tree.HasNumbers (outline d)
  pub shallow : tree.depth (outline d) ≤ most
  pub unique : HasUniqueKeys (outline d)

abbrev pub IsReadBack : ℕ → Data → Type 0
IsReadBack most d = IsReadAs most d d

pub record AreReadAs (most : ℕ) (ds read : Items) : Type 0 where
  pub utf8 : (later : Bool) → IsUtf8 (items_text later ds)
  pub reads : of_items (items_outline ds) ≡ Some read
  pub numbers : tree.ItemsHaveNumbers (items_outline ds)
  pub shallow : tree.items_depth (items_outline ds) ≤ most
  pub unique : ItemsHaveUniqueKeys (items_outline ds)

-- ASCII, and then UTF-8
pub ascii_then : (front back : List ℕ) → are_ascii front ≡ true → IsUtf8 back → IsUtf8 (front ++ back)
ascii_then front back ascii rest = IsUtf8-append front back (IsUtf8-are_ascii front ascii) rest

comma_ascii : (later : Bool) → are_ascii (comma_if later) ≡ true
comma_ascii true = refl
comma_ascii false = refl

-- ---- numbers and arrays

pub number_utf8 : (n : ℕ) → n < 2 ^ 64 → IsUtf8 (decimal n)
number_utf8 n fits = IsUtf8-from_ascii (decimal n) (IsAscii-decimal n fits)

pub number_back : (n : ℕ) → n < 2 ^ 64 → IsReadBack 0 (number_json n)
number_back n fits = record {
  utf8 = number_utf8 n fits;
  reads = ap (option_map number) (number_of-decimal n fits);
  numbers = IsNumber-decimal n fits;
  shallow = omega arith;
  unique = tt;
}

pub items_back : {X : Type 0} (as_json read_as : X → Data) (most : ℕ) (xs : List X) → AllByRecursion (λ x. IsReadAs most (as_json x) (read_as x)) xs
    → AreReadAs most (items_of (map as_json xs)) (items_of (map read_as xs))
items_back as_json read_as most [] h = record { utf8 = λ later. IsUtf8-are_ascii (93 ∷ []) refl; reads = refl; numbers = tt; shallow = omega arith; unique = tt }
items_back as_json read_as most (x ∷ xs) h =
    let rest = items_back as_json read_as most xs h.1 in
    record {
      utf8 = λ later. ascii_then (comma_if later) _ (comma_ascii later) (IsUtf8-append (compact_text (as_json x)) _ h.0.utf8 (rest.utf8 true));
      reads = rw h.0.reads (rw rest.reads refl);
      numbers = (h.0.numbers, rest.numbers);
      shallow = omega (arith, h.0.shallow, rest.shallow);
      unique = (h.0.unique, rest.unique);
    }

pub array_back : (most : ℕ) (ds read : Items) → AreReadAs most ds read → IsReadAs (suc most) (array ds) (array read)
array_back most ds read h = record {
  utf8 = ascii_then (91 ∷ []) (items_text false ds) refl (h.utf8 false);
  reads = ap (option_map array) h.reads;
  numbers = h.numbers;
  shallow = omega (arith, h.shallow);
  unique = h.unique;
}

-- ---- names of members

-- whether a name is none of some others
abbrev is_new : List ℕ → List (List ℕ) → Bool
is_new name [] = true
is_new name (other ∷ others) = if bytes_eq name other then false else is_new name others

abbrev pub are_new : List (List ℕ) → Bool
are_new [] = true
are_new (name ∷ names) = if is_new name names then are_new names else false

-- of two tests, the first one fails and the second one holds
second_holds : (first second : Bool) → (if first then false else second) ≡ true → (first ≡ false) × (second ≡ true)
second_holds true second h = absurd (false≢true h)
second_holds false second h = (refl, h)

-- both hold
both_hold : (first second : Bool) → (if first then second else false) ≡ true → (first ≡ true) × (second ≡ true)
both_hold true second h = (refl, h)
both_hold false second h = absurd (false≢true h)

new_among : (name : List ℕ) (names : List (List ℕ)) → is_new name names ≡ true → All (λ other. name ≢ other) names
new_among name [] h = All-nil (λ other. name ≢ other)
new_among name (other ∷ others) h =
    let (differ, rest) = second_holds (bytes_eq name other) (is_new name others) h in
    All-cons (λ other. name ≢ other) other others (λ e. absurd (false≢true (sym differ ∙ (bytes_eq-Decides name other).1 e))) (new_among name others rest)

pub distinct : (names : List (List ℕ)) → are_new names ≡ true → AreDistinct names
distinct [] h = λ i j d less within. absurd (omega (arith, within))
distinct (name ∷ names) h =
    let (new, rest) = both_hold (is_new name names) (are_new names) h in
    AllPairs-cons (λ a b. a ≢ b) name names (new_among name names new) (distinct names rest)

-- ---- the parts of a subtree

counts_back : (count : ℕ × ℕ) → count.0 + count.1 < 2 ^ 64 → IsReadBack 1 (counts_json count)
counts_back count fits =
    array_back 0 _ _ (items_back number_json number_json 0 (count.0 ∷ count.1 ∷ []) (number_back count.0 (omega (arith, fits)), (number_back count.1 (omega (arith, fits)), tt)))

node_utf8 : (node : Node) → node.1 < 2 ^ 64 → IsUtf8 (compact_text (node_json node))
unfolding escape_byte
node_utf8 node fits =
    let hex = hex_text node.0 in
    let quote : List ℕ = 34 ∷ [] in
    let head : List ℕ = 123 ∷ 34 ∷ codes "hash" ++ 34 ∷ 58 ∷ 34 ∷ [] in
    let between : List ℕ = 44 ∷ 34 ∷ codes "size" ++ 34 ∷ 58 ∷ [] in
    let digits = IsUtf8-append (escape hex) quote (subst IsUtf8 (sym (escape-hex_text node.0)) (IsUtf8-hex_text node.0)) (IsUtf8-are_ascii quote refl) in
    let size = IsUtf8-append (decimal node.1) (125 ∷ []) (number_utf8 node.1 fits) (IsUtf8-are_ascii (125 ∷ []) refl) in
    ascii_then head _ refl (IsUtf8-append (escape hex ++ quote) _ digits (ascii_then between _ refl size))

node_back : (node : Node) → node.1 < 2 ^ 64 → IsReadBack 1 (node_json node)
node_back node fits =
    let size = number_back node.1 fits in
    record {
      utf8 = node_utf8 node fits;
      reads = rw size.reads refl;
      numbers = (tt, (size.numbers, tt));
      shallow = omega arith;
      unique = (distinct (codes "hash" ∷ codes "size" ∷ []) refl, (tt, (tt, tt)));
    }

all_counts_back : (counts : List (ℕ × ℕ)) → count_sum counts < 2 ^ 64 → AllByRecursion (λ count. IsReadBack 1 (counts_json count)) counts
all_counts_back [] few = tt
all_counts_back (count ∷ counts) few =
    let sum = sum_by-cons (λ (c : ℕ × ℕ). c.0 + c.1) count counts in
    (counts_back count (omega (arith, sum, few)), all_counts_back counts (omega (arith, sum, few)))

all_nodes_back : (nodes : List Node) → total_size nodes < 2 ^ 64 → AllByRecursion (λ node. IsReadBack 1 (node_json node)) nodes
all_nodes_back [] fits = tt
all_nodes_back (node ∷ nodes) fits =
    let sum = sum_by-cons (λ (n : Node). n.1) node nodes in
    (node_back node (omega (arith, sum, fits)), all_nodes_back nodes (omega (arith, sum, fits)))

pub count_sum-levels : (levels : List Level) → count_sum (map count_of levels) ≡ node_count levels
count_sum-levels [] = refl
count_sum-levels (level ∷ levels) =
    let sum = sum_by-cons (λ (c : ℕ × ℕ). c.0 + c.1) (count_of level) (map count_of levels) in
    omega (arith, sum, count_sum-levels levels)

-- ---- texts

-- the JSON of a text is that of the value that it was written for
value_of : (most : ℕ) (d read : Data) (bound : ℕ) → most ≤ bound → IsReadAs most d read
    → option_and_then (λ p. json.if_last p.0 p.1) (json.value bound (tokens (compact_text d))) ≡ Some (outline d)
value_of most d read bound few back =
    let whole = λ (o : Option (json.Json × List token.Token)). option_and_then (λ p. json.if_last p.0 p.1) o in
    let written = ap tokens (sym (print-outline d)) ∙ tokens-print (tree.json_tokens (outline d)) (ArePrintable-json_tokens (outline d) back.numbers) in
    ap whole (ap (json.value bound) (written ∙ sym (append-nil (tree.json_tokens (outline d))))
    ∙ value-json_tokens (outline d) bound [] (omega (arith, back.shallow, few)))

text_reads : (most : ℕ) (d value : Data) → most ≤ 32 → IsReadAs most d value → read (compact_text d) ≡ Some value
text_reads most d value few back = ap (option_and_then of_json) (value_of most d value max_depth (omega (arith, few)) back) ∙ back.reads

pub strict_text : (most : ℕ) (d value : Data) → most ≤ 32 → IsReadAs most d value → IsStrictText (compact_text d) value
strict_text most d value few back = record {
  utf8 = back.utf8;
  shallow = outline_shallow d (omega (arith, back.shallow, few));
  json = outline d;
  is_json = value_of most d value json.max_depth (omega (arith, few)) back;
  unique = back.unique;
  value_is = text_reads most d value few back;
}

-- ---- the subtree

module _ (subtree : Subtree) (few : count_sum (map count_of subtree.levels) < 2 ^ 64) (fits : total_size (flat_nodes subtree.levels []) < 2 ^ 64) where
  counts : AreReadAs 1 (items_of (map counts_json (map count_of subtree.levels))) (items_of (map counts_json (map count_of subtree.levels)))
  counts = items_back counts_json counts_json 1 (map count_of subtree.levels) (all_counts_back _ few)

  nodes : AreReadAs 1 (items_of (map node_json (flat_nodes subtree.levels []))) (items_of (map node_json (flat_nodes subtree.levels [])))
  nodes = items_back node_json node_json 1 (flat_nodes subtree.levels []) (all_nodes_back _ fits)

  pub subtree_utf8 : IsUtf8 (compact_text (subtree_json subtree))
  unfolding escape_byte
  subtree_utf8 =
      let levels_json = array (items_of (map counts_json (map count_of subtree.levels))) in
      ascii_then (123 ∷ 34 ∷ codes "at_end" ++ 34 ∷ 58 ∷ []) _ refl (
      IsUtf8-append (token_text (token.boolean subtree.at_end)) _ (IsUtf8-boolean subtree.at_end) (
      ascii_then (44 ∷ 34 ∷ codes "at_start" ++ 34 ∷ 58 ∷ []) _ refl (
      IsUtf8-append (token_text (token.boolean subtree.at_start)) _ (IsUtf8-boolean subtree.at_start) (
      ascii_then (44 ∷ 34 ∷ codes "levels" ++ 34 ∷ 58 ∷ []) _ refl (
      IsUtf8-append (compact_text levels_json) _ (array_back 1 _ _ counts).utf8 (
      ascii_then (44 ∷ 34 ∷ codes "nodes" ++ 34 ∷ 58 ∷ []) _ refl (
      IsUtf8-append (compact_text (nodes_json (flat_nodes subtree.levels []))) (125 ∷ []) (array_back 1 _ _ nodes).utf8 (
      IsUtf8-are_ascii (125 ∷ []) refl))))))))

  pub subtree_back : IsReadBack 3 (subtree_json subtree)
  subtree_back = record {
    utf8 = subtree_utf8;
    reads = rw counts.reads (rw nodes.reads refl);
    numbers = (tt, (tt, (counts.numbers, (nodes.numbers, tt))));
    shallow = omega (arith, counts.shallow, nodes.shallow);
    unique = (distinct (codes "at_end" ∷ codes "at_start" ∷ codes "levels" ∷ codes "nodes" ∷ []) refl, (tt, (tt, (counts.unique, (nodes.unique, tt)))));
  }

  pub subtree_shallow : IsShallow (compact_text (subtree_json subtree))
  subtree_shallow = outline_shallow (subtree_json subtree) (omega (arith, subtree_back.shallow))

  pub subtree_reads : read (compact_text (subtree_json subtree)) ≡ Some (subtree_json subtree)
  subtree_reads = text_reads 3 (subtree_json subtree) (subtree_json subtree) (omega arith) subtree_back
