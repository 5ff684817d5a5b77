-- What an input of ranges that were made separately says.
use Rattle.std.proofs.Common.{arith, ◌≡◌, ◌+◌, ◌^◌, ◌<◌, ◌≤◌, ℕ, Bool, List, [], ◌∷◌, ◌++◌, length, flat_map, refl, sym, ap, subst, ◌∙◌, append_assoc, append-nil, length-append}
use Rattle.std.specs.List.{AllZip, concat}
use Rattle.serde_json.specs.Data.{Data}
use Rattle.serde_json.specs.Written.{compact_text}
use Rattle.std.proofs.lemmas.List.Folds.{concat-append}
use Rattle.std.proofs.lemmas.List.Sums.{sum_by-append}
use Rattle.xet_merkle.specs.SubtreeJson.{subtree_json}
use Rattle.line_io.specs.Lines.{byte_limit, content, lines_of, newline}
use Rattle.line_io.proofs.Lines.{concat-lines_of, lines_of-whole, content-whole}
use Rattle.pair_text.specs.declared.line.Line.TheVariants.{Separator, Position, Pair}
use Rattle.pair_text.specs.Output.{IsOutput}
use Rattle.pair_text.specs.PairText.{Say, AreGood, IsAnswer, NoPositions}
use Rattle.pair_text.specs.PairText.Say.{no_line, separator, pair}
use Rattle.pair_text.proofs.LineMeaning.{Says-unique}
use Rattle.pair_text.proofs.GoodPairs.{say-few, say-more}
use Rattle.xet_merkle.specs.Groups.{Node}
use Rattle.xet_merkle.specs.Roots.{total_size, parent, parent_hash}
use Rattle.xet_merkle.specs.Levels.{Level, levels_size, node_count}
use Rattle.xet_merkle.specs.Canonical.{IsCanonicalBy}
use Rattle.xet_merkle.specs.Subtree.{Subtree, IsCanonical}
use Rattle.xet_merkle.specs.JsonRules.{Reads}
use Rattle.xet_merkle.specs.Merging.{AreCanonical, ranges_size}
use Rattle.subtree_levels.proofs.Canonical.Collapsing.{levels_size-canonical}
use Rattle.xetrange_text.specs.Ranges.{SaysRange, IsRangeLine}
use Rattle.xetrange_text.specs.Answers.{IsRootOf}
use Rattle.xetrange_text.specs.Cutting.{InputOf}
use Rattle.xetrange_text.specs.Cutting.InputOf.{nothing, made, joined}
use Rattle.xetrange_text.proofs.OneLine.{one_line}

-- ---- lines

length-concat : (xs ys : List (List ℕ)) → length (concat (xs ++ ys)) ≡ length (concat xs) + length (concat ys)
length-concat xs ys = ap length (concat-append xs ys) ∙ length-append (concat xs) (concat ys)

flat-append : {X Y : Type 0} (f : X → List Y) (xs ys : List X) → flat_map f (xs ++ ys) ≡ flat_map f xs ++ flat_map f ys
flat-append f [] ys = refl
flat-append f (x ∷ xs) ys = ap (λ l. f x ++ l) (flat-append f xs ys) ∙ sym (append_assoc (f x) (flat_map f xs) (flat_map f ys))

say-quiet : (lines : List (List ℕ)) (pairs : List Node) → Say lines pairs → NoPositions lines
say-quiet [] [] no_line = tt
say-quiet [] (node ∷ pairs) say = elim say [ ]
say-quiet (line ∷ lines) pairs (separator is say) = (
  (λ position named. let clash : ⊥ = cc (Says-unique (content line) Separator (Position position) is named) in clash),
  say-quiet lines pairs say,
)
say-quiet (line ∷ lines) (node ∷ pairs) (pair is say) = (
  (λ position named. let clash : ⊥ = cc (Says-unique (content line) (Pair node) (Position position) is named) in clash),
  say-quiet lines pairs say,
)

-- ---- ranges

abbrev all : List (List Node) → List Node
all lists = flat_map (λ l. l) lists

abbrev SayRanges : List (List ℕ) → List Subtree → Type 0
SayRanges = AllZip (λ line range. SaysRange (content line) range)

size-all : (ranges : List Subtree) (lists : List (List Node)) → AreCanonical ranges lists → total_size (all lists) ≡ ranges_size ranges
size-all [] [] zip = refl
size-all [] (list ∷ lists) zip = absurd zip
size-all (range ∷ ranges) [] zip = absurd zip
size-all (range ∷ ranges) (list ∷ lists) zip =
    let one = levels_size-canonical parent_hash zip.0.1 in
    let sum : total_size (all (list ∷ lists)) ≡ total_size list + total_size (all lists) = sum_by-append (λ (n : Node). n.1) list (all lists) in
    let sizes : ranges_size (range ∷ ranges) ≡ ranges_size (range ∷ []) + ranges_size ranges = sum_by-append (λ (r : Subtree). levels_size r.levels) (range ∷ []) ranges in
    omega (arith, one, sum, sizes, size-all ranges lists zip.1)

module _ (one_subtree : (json : Data) (a b : Subtree) → Reads json a → Reads json b → a ≡ b)
    (few_nodes : (make : List Node → Node) (at_start at_end : Bool) (nodes : List Node) (levels : List Level) (work : ℕ) →
    IsCanonicalBy make at_start at_end nodes levels work → node_count levels ≤ length nodes) where
  says-one : (text : List ℕ) (a b : Subtree) → SaysRange text a → SaysRange text b → a ≡ b
  says-one text a b (json, first, reads, _) (other, second, also, _) =
      let same : json ≡ other = cc (sym first.value_is ∙ second.value_is) in one_subtree other a b (subst (λ j. Reads j a) same reads) also

  say-one : (lines : List (List ℕ)) (a b : List Subtree) → SayRanges lines a → SayRanges lines b → a ≡ b
  say-one [] [] [] h k = refl
  say-one [] [] (_ ∷ _) h k = absurd k
  say-one [] (_ ∷ _) b h k = absurd h
  say-one (line ∷ lines) [] b h k = absurd h
  say-one (line ∷ lines) (_ ∷ _) [] h k = absurd k
  say-one (line ∷ lines) (x ∷ a) (y ∷ b) h k =
      let same = says-one (content line) x y h.0 k.0 in
      ap (λ r. r ∷ a) same ∙ ap (λ l. y ∷ l) (say-one lines a b h.1 k.1)

  -- what an input of the ranges of some pieces says
  pub record Says (pieces : List (List ℕ)) (input : List ℕ) : Type 0 where
    pub ranges : List Subtree
    pub lists : List (List Node)
    pub say : SayRanges (lines_of input) ranges
    pub canonical : AreCanonical ranges lists
    pub pairs : Say (flat_map lines_of pieces) (all lists)

  -- with a line more in front
  in_front : (group pieces : List (List ℕ)) (answer input : List ℕ) (range : Subtree) (list : List Node) → IsRangeLine answer range → IsCanonical range list
      → total_size list < 2 ^ 64 → length list < 2 ^ 64 → Say (flat_map lines_of group) list → Says pieces input → Says (group ++ pieces) (answer ++ input)
  in_front group pieces answer input range list line canonical fits few pairs rest =
      let size = levels_size-canonical parent_hash canonical.1 in
      let count = few_nodes parent range.at_start range.at_end list range.levels _ canonical.1 in
      let text = compact_text (subtree_json range) in
      let whole = text ++ newline ∷ [] in
      let flat = one_line range (omega (arith, size, fits)) (omega (arith, count, few)) in
      let is : lines_of (answer ++ input) ≡ whole ∷ lines_of input =
      ap (λ (l : List ℕ). lines_of (l ++ input)) line.text ∙ ap lines_of (append_assoc text (newline ∷ []) input) ∙ lines_of-whole text input flat in
      record {
        ranges = range ∷ rest.ranges;
        lists = list ∷ rest.lists;
        say = subst (λ l. SayRanges l (range ∷ rest.ranges)) (sym is)
            (subst (λ (l : List ℕ). SaysRange l range) (sym (content-whole text)) line.says, rest.say);
        canonical = (canonical, rest.canonical);
        pairs = subst (λ l. Say l (list ++ all rest.lists)) (sym (flat-append lines_of group pieces))
            (say-more (flat_map lines_of group) (flat_map lines_of pieces) list (all rest.lists) pairs rest.pairs);
      }

  pub says : (pieces : List (List ℕ)) (input : List ℕ) → InputOf pieces input → length (concat (flat_map lines_of pieces)) < 2 ^ 64 → Says pieces input
  says [] [] nothing few = record { ranges = []; lists = []; say = tt; canonical = tt; pairs = no_line }
  says pieces input (made {piece = piece} {answer = answer} {input = rest} {pieces = others} (pairs, range, good, canonical, is_open, line) more) few =
      let lines = length-concat (lines_of piece) (flat_map lines_of others) in
      let count = say-few (lines_of piece) pairs good.say in
      in_front (piece ∷ []) others answer rest range pairs line canonical good.fits (omega (arith, lines, count, few))
      (subst (λ l. Say l pairs) (sym (append-nil (lines_of piece))) good.say)
      (says others rest more (omega (arith, lines, few)))
  says pieces input (joined {group = group} {pieces = others} {parts = parts} {answer = answer} {input = rest} inside (ranges, range, good, are_merged, line) more) few =
      let lines = ap (λ l. length (concat l)) (flat-append lines_of group others) ∙ length-concat (flat_map lines_of group) (flat_map lines_of others) in
      let of_parts = says group parts inside (omega (arith, lines, few)) in
      let same = say-one (lines_of parts) ranges of_parts.ranges good.say of_parts.say in
      let zip = subst (λ r. AreCanonical r of_parts.lists) (sym same) of_parts.canonical in
      let size = size-all ranges of_parts.lists zip in
      let count = say-few (flat_map lines_of group) (all of_parts.lists) of_parts.pairs in
      in_front group others answer rest range (all of_parts.lists) line (are_merged.canonical of_parts.lists zip) (omega (arith, size, good.fits))
      (omega (arith, lines, count, few)) of_parts.pairs (says others rest more (omega (arith, lines, few)))

  pub root-of : (text output input : List ℕ) (pieces : List (List ℕ)) → lines_of text ≡ flat_map lines_of pieces → length text ≤ byte_limit
      → InputOf pieces input → IsRootOf input output → NoPositions (lines_of text) × IsAnswer text output
  root-of text output input pieces cut within inputs answer =
      let bytes = ap length (ap concat (sym cut) ∙ concat-lines_of text) in
      let said = says pieces input inputs (omega (arith, bytes, within)) in
      let same = say-one (lines_of input) answer.ranges said.ranges answer.good.say said.say in
      let zip = subst (λ r. AreCanonical r said.lists) (sym same) said.canonical in
      let size = size-all answer.ranges said.lists zip in
      let say = subst (λ l. Say l (all said.lists)) (sym cut) said.pairs in
      let fits = answer.good.fits in
      let good : AreGood (lines_of text) (all said.lists) =
      record { say = say; fits = omega (arith, size, fits); within = subst (λ (l : List ℕ). length l ≤ byte_limit) (sym (concat-lines_of text)) within } in
      let output_is : IsOutput (all said.lists) output =
      record { root = answer.root; file = answer.file; is_root = answer.is_root said.lists zip; is_file = answer.is_file said.lists zip; text = answer.is_text } in
      (say-quiet (lines_of text) (all said.lists) say, (all said.lists, good, output_is))
