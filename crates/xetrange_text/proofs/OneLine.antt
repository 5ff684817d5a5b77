-- The compact JSON text of a subtree has no newline.
use Rattle.std.proofs.Common.{arith, ◌≡◌, ◌≢◌, ◌+◌, ◌^◌, ◌<◌, ℕ, Bool, true, false, cond, List, [], ◌∷◌, ◌||◌, ◌==◌, map, decimal, codes, nat_lt, ◌/◌, ◌%◌, refl, sym, subst}
use Rattle.std.proofs.lemmas.Bool.{false≢true}
use Rattle.std.proofs.lemmas.List.Sums.{sum_by-append}
use Rattle.std.proofs.lemmas.Fmt.{decimal_by_steps}
use Rattle.std.specs.List.{AllByRecursion as Each}
use Rattle.std.specs.Char.{digit_char}
use Rattle.json.specs.Print.{quoted, escape, escape_byte, escape_letter}
use Rattle.serde_json.specs.Data.{Data, boolean, array}
use Rattle.serde_json.specs.View.{items_of}
use Rattle.serde_json.specs.Written.{compact_text, items_text, comma_if}
use Rattle.xet_hash.specs.Hash.{hex_text}
use Rattle.line_io.specs.Lines.{NoNewline, newline}
use Rattle.line_io.proofs.Lines.{NoNewline-append}
use Rattle.xet_merkle.specs.Groups.{Node}
use Rattle.xet_merkle.specs.Roots.{total_size}
use Rattle.xet_merkle.specs.Levels.{Level, levels_size, node_count}
use Rattle.xet_merkle.specs.Subtree.{Subtree}
use Rattle.xet_merkle.specs.FlatLevels.{count_of, flat_nodes}
use Rattle.xet_merkle.proofs.Levels.Flat.{levels_size-flat}
use Rattle.xet_merkle.specs.NodeJson.{node_json, nodes_json}
use Rattle.xet_merkle.specs.SubtreeJson.{counts_json, subtree_json}

cond-of : {X : Type 0} (P : X → Type 0) (b : Bool) (x y : X) → (b ≡ true → P x) → (b ≡ false → P y) → P (cond b x y)
cond-of P true x y first second = first refl
cond-of P false x y first second = second refl

-- ---- strings

letter-plain : (x : ℕ) → escape_letter x ≢ newline
letter-plain x =
    cond-of (λ v. v ≢ newline) ((x == 34) || (x == 92)) x _
    (λ is same. false≢true (subst (λ v. ((v == 34) || (v == 92)) ≡ true) same is))
    (λ _. cond-of (λ v. v ≢ newline) (x == 8) 98 _ (λ _ e. omega (arith, e))
    (λ _. cond-of (λ v. v ≢ newline) (x == 12) 102 _ (λ _ e. omega (arith, e))
    (λ _. cond-of (λ v. v ≢ newline) (x == 10) 110 _ (λ _ e. omega (arith, e))
    (λ _. cond-of (λ v. v ≢ newline) (x == 13) 114 _ (λ _ e. omega (arith, e))
    (λ _. cond-of (λ v. v ≢ newline) (x == 9) 116 0 (λ _ e. omega (arith, e)) (λ _ e. omega (arith, e)))))))

digit-plain : (d : ℕ) → digit_char d ≢ newline
digit-plain d = cond-of (λ v. v ≢ newline) (nat_lt d 10) (48 + d) (87 + d) (λ _ e. omega (arith, e)) (λ _ e. omega (arith, e))

byte-plain : (x : ℕ) → NoNewline (escape_byte x)
unfolding escape_byte
byte-plain x =
    cond-of NoNewline (nat_lt 0 (escape_letter x)) (92 ∷ escape_letter x ∷ []) _
    (λ _. ((λ e. omega (arith, e)), (letter-plain x, tt)))
    (λ none. cond-of NoNewline (nat_lt x 32) (92 ∷ 117 ∷ 48 ∷ 48 ∷ digit_char (x / 16) ∷ digit_char (x % 16) ∷ []) (x ∷ [])
    (λ _. ((λ e. omega (arith, e)), ((λ e. omega (arith, e)), ((λ e. omega (arith, e)), ((λ e. omega (arith, e)), (digit-plain (x / 16), (digit-plain (x % 16), tt)))))))
    (λ _. ((λ same. false≢true (sym (subst (λ v. nat_lt 0 (escape_letter v) ≡ false) same none))), tt)))

quoted-plain : (s : List ℕ) → NoNewline (quoted s)
quoted-plain s = ((λ e. omega (arith, e)), NoNewline-append (escape s) (34 ∷ []) (escaped s) ((λ e. omega (arith, e)), tt))
  where
    escaped : (s : List ℕ) → NoNewline (escape s)
    escaped [] = tt
    escaped (x ∷ s) = NoNewline-append (escape_byte x) (escape s) (byte-plain x) (escaped s)

-- ---- numbers

decimal-plain : (n : ℕ) → n < 2 ^ 64 → NoNewline (decimal n)
decimal-plain =
    decimal_by_steps (λ n digits. NoNewline digits) (λ n low. ((λ e. omega (arith, e)), tt))
    (λ n digits more rest. NoNewline-append digits ((48 + n % 10) ∷ []) rest ((λ e. omega (arith, e)), tt))

-- ---- arrays

items-plain : {X : Type 0} (json : X → Data) (later : Bool) (xs : List X) → Each (λ x. NoNewline (compact_text (json x))) xs
    → NoNewline (items_text later (items_of (map json xs)))
items-plain json later [] all = ((λ e. omega (arith, e)), tt)
items-plain json later (x ∷ xs) all =
    NoNewline-append (comma_if later) _ (comma later)
    (NoNewline-append (compact_text (json x)) _ all.0 (items-plain json true xs all.1))
  where
    comma : (later : Bool) → NoNewline (comma_if later)
    comma true = ((λ e. omega (arith, e)), tt)
    comma false = tt

counts-plain : (count : ℕ × ℕ) → count.0 < 2 ^ 64 → count.1 < 2 ^ 64 → NoNewline (compact_text (counts_json count))
counts-plain count left right = (
  (λ e. omega (arith, e)),
  NoNewline-append (decimal count.0) _ (decimal-plain count.0 left)
      ((λ e. omega (arith, e)), NoNewline-append (decimal count.1) _ (decimal-plain count.1 right) ((λ e. omega (arith, e)), tt)),
)

node-plain : (node : Node) → node.1 < 2 ^ 64 → NoNewline (compact_text (node_json node))
node-plain node size = (
  (λ e. omega (arith, e)),
  NoNewline-append (quoted (codes "hash")) _ (quoted-plain (codes "hash")) (
    (λ e. omega (arith, e)),
    NoNewline-append (quoted (hex_text node.0)) _ (quoted-plain (hex_text node.0)) (
      (λ e. omega (arith, e)),
      NoNewline-append (quoted (codes "size")) _ (quoted-plain (codes "size"))
          ((λ e. omega (arith, e)), NoNewline-append (decimal node.1) _ (decimal-plain node.1 size) ((λ e. omega (arith, e)), tt)),
    ),
  ),
)

-- ---- what a subtree keeps

counts-low : (levels : List Level) → node_count levels < 2 ^ 64 → Each (λ x. NoNewline (compact_text (counts_json x))) (map count_of levels)
counts-low [] low = tt
counts-low (level ∷ levels) low =
    (counts-plain (count_of level) (omega (arith, low)) (omega (arith, low)), counts-low levels (omega (arith, low)))

nodes-low : (nodes : List Node) → total_size nodes < 2 ^ 64 → Each (λ x. NoNewline (compact_text (node_json x))) nodes
nodes-low [] low = tt
nodes-low (node ∷ nodes) low =
    let sum : total_size (node ∷ nodes) ≡ total_size (node ∷ []) + total_size nodes = sum_by-append (λ (n : Node). n.1) (node ∷ []) nodes in
    (node-plain node (omega (arith, low, sum)), nodes-low nodes (omega (arith, low, sum)))

bool-plain : (b : Bool) → NoNewline (compact_text (boolean b))
bool-plain true = ((λ e. omega (arith, e)), ((λ e. omega (arith, e)), ((λ e. omega (arith, e)), ((λ e. omega (arith, e)), tt))))
bool-plain false = ((λ e. omega (arith, e)), ((λ e. omega (arith, e)), ((λ e. omega (arith, e)), ((λ e. omega (arith, e)), ((λ e. omega (arith, e)), tt)))))

pub one_line : (range : Subtree) → levels_size range.levels < 2 ^ 64 → node_count range.levels < 2 ^ 64 → NoNewline (compact_text (subtree_json range))
one_line range size count =
    let levels = items-plain counts_json false (map count_of range.levels) (counts-low range.levels count) in
    let nodes = items-plain node_json false (flat_nodes range.levels []) (nodes-low (flat_nodes range.levels []) (omega (arith, size, levels_size-flat range.levels))) in (
      (λ e. omega (arith, e)),
      NoNewline-append (quoted (codes "at_end")) _ (quoted-plain (codes "at_end")) (
        (λ e. omega (arith, e)),
        NoNewline-append (compact_text (boolean range.at_end)) _ (bool-plain range.at_end) (
          (λ e. omega (arith, e)),
          NoNewline-append (quoted (codes "at_start")) _ (quoted-plain (codes "at_start")) (
            (λ e. omega (arith, e)),
            NoNewline-append (compact_text (boolean range.at_start)) _ (bool-plain range.at_start) (
              (λ e. omega (arith, e)),
              NoNewline-append (quoted (codes "levels")) _ (quoted-plain (codes "levels")) (
                (λ e. omega (arith, e)),
                NoNewline-append (compact_text (array (items_of (map counts_json (map count_of range.levels))))) _ ((λ e. omega (arith, e)), levels) (
                  (λ e. omega (arith, e)),
                  NoNewline-append (quoted (codes "nodes")) _ (quoted-plain (codes "nodes")) (
                    (λ e. omega (arith, e)),
                    NoNewline-append (compact_text (nodes_json (flat_nodes range.levels []))) _ ((λ e. omega (arith, e)), nodes)
                        ((λ e. omega (arith, e)), tt),
                  ),
                ),
              ),
            ),
          ),
        ),
      ),
    )
