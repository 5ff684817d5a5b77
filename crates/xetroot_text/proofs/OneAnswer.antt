-- Each text has exactly one answer, or exactly one fault that comes from the text itself.
use Rattle.std.proofs.Common.{arith, ◌≡◌, ◌≢◌, ◌⊎◌, inl, inr, ◌+◌, ◌-◌, ◌^◌, ◌<◌, ◌≤◌, ℕ, true, false, List, [], ◌∷◌, ◌++◌, map, reverse, replicate, length, refl, sym, ap, subst, ◌∙◌, append-nil, append_assoc, length-append, drop}
use Rattle.std.specs.List.{concat}
use Rattle.std.proofs.lemmas.Bool.{false≢true, cases_Bool, cases_eq, cases_lt}
use Rattle.std.proofs.lemmas.List.{reverse-append}
use Rattle.std.proofs.lemmas.List.Folds.{concat-append}
use Rattle.xet_hash.specs.Blake3.{keyed_hash}
use Rattle.xet_hash.specs.Hash.{bytes_of, default_hash, hash_of}
use Rattle.xet_roots.specs.Groups.{Node}
use Rattle.xet_roots.specs.Roots.{total_size, parent, IsRoot, IsFileHash}
use Rattle.xet_roots.proofs.Lists.Places.{Meets, meets}
use Rattle.xet_roots.proofs.Lists.Places.Meets.{same as at_one, earlier as before_it, later as after_it}
use Rattle.xet_roots.proofs.Roots.OneRoot.{root_exists, IsRootBy-unique}
use Rattle.upload_session.specs.Session.{Placed, Put, ArePlaced, IsWhole, chunks_of, is_taken, place, placed_from}
use Rattle.upload_session.proofs.Placing.{place-size}
use Rattle.upload_session.proofs.Positions.{taken-overlaps}
use Rattle.line_io.specs.Lines.{byte_limit, content, lines_of}
use Rattle.line_io.specs.Faults.{HasFault}
use Rattle.pair_text.specs.declared.line.Line.{Line}
use Rattle.pair_text.specs.declared.line.Line.TheVariants.{Separator, Position, Pair}
use Rattle.pair_text.specs.Lines.{SaysPair}
use Rattle.pair_text.specs.LineSays.{Says, SaysNothing}
use Rattle.pair_text.specs.Output.{IsOutput, output_text}
use Rattle.pair_text.proofs.LineMeaning.{Says-unique, Says-decided}
use Rattle.xetroot_text.specs.declared.fault.Fault.{Fault}
use Rattle.xetroot_text.specs.declared.fault.Fault.TheVariants.{BadLine, Sizes, Memory, Read, Write, Overlap, Gap}
use Rattle.xetroot_text.specs.declared.fault.LineFault.{LineFault}
use Rattle.xetroot_text.specs.declared.fault.LineFault.TheVariants.{Bad, Overlap as overlaps, Sizes as passes_sizes}
use Rattle.xetroot_text.specs.Answer.{Say, TakeOtherPositions, AreGood, IsBad, Overlaps, PassesSizes, IsAnswer, HasGap, IsOwn, IsLineFault, IsFaultOf}
use Rattle.xetroot_text.specs.Answer.Say.{no_line, separator, position, pair}
use Rattle.xetroot_text.proofs.GoodLines.{alone, AreGood-none, AddsLine-separator, AddsLine-position, AddsLine-pair, not_bad}

-- ---- what lines say is one thing

-- what follows a line that says a thing
abbrev pub Follows : Line → ℕ → List (List ℕ) → List Placed → ℕ → Type 0
Follows Separator next lines placed last = Say next lines placed last
Follows (Position named) next lines placed last = Say named lines placed last
Follows (Pair node) next lines placed last =
    (more : List Placed) × (placed ≡ (next, node) ∷ more) × (next < 2 ^ 64 - 1) × Say (next + 1) lines more last

pub say-first : (next last : ℕ) (line : List ℕ) (lines : List (List ℕ)) (placed : List Placed) → Say next (line ∷ lines) placed last
    → (said : Line) × Says (content line) said × Follows said next lines placed last
say-first next last line lines placed (separator is say) = (Separator, is, say)
say-first next last line lines placed (position is say) = (Position _, is, say)
say-first next last line lines (p ∷ placed) (pair is low say) = (Pair p.1, is, (placed, refl, low, say))

say-none : (next last : ℕ) (placed : List Placed) → Say next [] placed last → (placed ≡ []) × (last ≡ next)
say-none next last [] no_line = (refl, refl)
say-none next last (_ ∷ _) x3 = elim x3 [ ]

say-unique : (lines : List (List ℕ)) (next n m : ℕ) (a b : List Placed) → Say next lines a n → Say next lines b m → (a ≡ b) × (n ≡ m)
say-unique [] next n m a b first second =
    let (none, stays) = say-none next n a first in
    let (also, remains) = say-none next m b second in
    (none ∙ sym also, stays ∙ sym remains)
say-unique (line ∷ lines) next n m a b first second =
    let (said, is, follows) = say-first next n line lines a first in
    let (other, also, goes) = say-first next m line lines b second in
    choose said follows (subst (λ s. Follows s next lines b m) (Says-unique (content line) other said also is) goes) (say-unique lines)
  where
    choose : (said : Line) → Follows said next lines a n → Follows said next lines b m
        → ((next n m : ℕ) (a b : List Placed) → Say next lines a n → Say next lines b m → (a ≡ b) × (n ≡ m)) → (a ≡ b) × (n ≡ m)
    choose Separator follows goes rest = rest next n m a b follows goes
    choose (Position named) follows goes rest = rest named n m a b follows goes
    choose (Pair node) (more, is, low, say) (others, also, _, says) rest =
        let (same, last) = rest (next + 1) n m more others say says in
        (is ∙ ap (λ l. (next, node) ∷ l) same ∙ sym also, last)

pub placed-unique : (puts : List Put) (a b : List Placed) → ArePlaced puts a → ArePlaced puts b → a ≡ b
placed-unique [] a b first second = first ∙ sym second
placed-unique (put ∷ puts) a b (before, were, _, _, is) (other, also, _, _, same) =
    is ∙ ap (λ l. place l put.0 put.1) (placed-unique puts before other were also) ∙ sym same

pub good-unique : (lines : List (List ℕ)) (a b : List Placed) (n m : ℕ) → AreGood lines a n → AreGood lines b m → (a ≡ b) × (n ≡ m)
good-unique lines a b n m first second =
    let (order, last) = say-unique lines 0 n m first.in_order second.in_order first.say second.say in
    (placed-unique (map alone (reverse first.in_order)) a b first.apart (subst (λ l. TakeOtherPositions l b) (sym order) second.apart), last)

-- ---- good lines end before a faulty one

pub say-split : (before rest : List (List ℕ)) (next last : ℕ) (placed : List Placed) → Say next (before ++ rest) placed last
    → (middle : ℕ) × (front : List Placed) × (back : List Placed) × (placed ≡ front ++ back) × Say next before front middle × Say middle rest back last
say-split [] rest next last placed say = (next, [], placed, refl, no_line, say)
say-split (line ∷ before) rest next last placed (separator is say) =
    let (middle, front, back, parts, first, second) = say-split before rest next last placed say in
    (middle, front, back, parts, separator is first, second)
say-split (line ∷ before) rest next last placed (position is say) =
    let (middle, front, back, parts, first, second) = say-split before rest _ last placed say in
    (middle, front, back, parts, position is first, second)
say-split (line ∷ before) rest next last (p ∷ placed) (pair is low say) =
    let (middle, front, back, parts, first, second) = say-split before rest (next + 1) last placed say in
    (middle, p ∷ front, back, ap (λ l. p ∷ l) parts, pair is low first, second)

-- the earlier ones of some pairs, which have no more bytes
placed-earlier : (later earlier : List Placed) (pairs : List Placed) → ArePlaced (map alone (later ++ earlier)) pairs
    → (before : List Placed) × ArePlaced (map alone earlier) before × (total_size (chunks_of before) ≤ total_size (chunks_of pairs))
placed-earlier [] earlier pairs apart = (pairs, apart, omega arith)
placed-earlier (p ∷ later) earlier pairs (between, were, _, _, is) =
    let (before, apart, few) = placed-earlier later earlier between were in
    let all = ap (λ l. total_size (chunks_of l)) is ∙ place-size between p.0 (p.1 ∷ []) in
    (before, apart, omega (arith, few, all))

-- what is so of good lines and a line after them, where they are all good
record Fine (before : List (List ℕ)) (pairs : List Placed) (next : ℕ) (line : List ℕ) : Type 0 where
  within : length (concat before) + length line ≤ byte_limit
  said : Line
  says : Says (content line) said
  low : (node : Node) → said ≡ Pair node → next < 2 ^ 64 - 1
  free : (node : Node) → said ≡ Pair node → is_taken pairs next ≡ false
  fits : (node : Node) → said ≡ Pair node → total_size (chunks_of pairs) + node.1 < 2 ^ 64

fine : (before : List (List ℕ)) (line : List ℕ) (after : List (List ℕ)) (all pairs : List Placed) (last next : ℕ)
    → AreGood (before ++ line ∷ after) all last → AreGood before pairs next → Fine before pairs next line
fine before line after all pairs last next good front =
    let (middle, first, back, parts, say, rest) = say-split before (line ∷ after) 0 last good.in_order good.say in
    let (order, at) = say-unique before 0 middle next first front.in_order say front.say in
    let (said, says, follows) = say-first middle last line after back rest in
    let following = λ (node : Node) (is : said ≡ Pair node). subst (λ s. Follows s middle after back last) is follows in
    let apart = λ (node : Node) (is : said ≡ Pair node).
    let more = following node is in
    let reversed = ap reverse (parts ∙ ap (λ l. first ++ l) more.1)
    ∙ reverse-append first ((middle, node) ∷ more.0)
    ∙ ap (λ l. l ++ reverse first) (reverse-append ((middle, node) ∷ []) more.0)
    ∙ append_assoc (reverse more.0) ((middle, node) ∷ []) (reverse first) in
    placed-earlier (reverse more.0) ((middle, node) ∷ reverse first) all (subst (λ l. ArePlaced (map alone l) all) reversed good.apart) in
    let same = λ (other : List Placed) (placed : ArePlaced (map alone (reverse first)) other).
    placed-unique (map alone (reverse first)) other pairs placed (subst (λ l. TakeOtherPositions l pairs) (sym order) front.apart) in
    record {
      within = omega (arith, good.within, ap length (concat-append before (line ∷ after)), length-append (concat before) (line ++ concat after), length-append line (concat after));
      said = said;
      says = says;
      low = λ node is. let (more, _, low, _) = following node is in subst (λ n. n < 2 ^ 64 - 1) at low;
      free = λ node is.
          let (_, (other, placed, _, free, _), _) = apart node is in
          ap (λ l. is_taken l next) (sym (same other placed)) ∙ ap (is_taken other) (sym at) ∙ taken-overlaps other middle ∙ free;
      fits = λ node is.
          let (whole, (other, placed, _, _, made), few) = apart node is in
          let size = ap (λ l. total_size (chunks_of l)) made ∙ place-size other middle (node ∷ []) in
          omega (arith, good.fits, few, size, ap (λ l. total_size (chunks_of l)) (same other placed));
    }

-- whether a line after good ones is faulty
abbrev IsFaulty : List (List ℕ) → List Placed → ℕ → List ℕ → Type 0
IsFaulty before pairs next line = IsBad before next line ⊎ (Overlaps pairs next line ⊎ PassesSizes pairs line)

fine-or-faulty : (before : List (List ℕ)) (pairs : List Placed) (next : ℕ) (line : List ℕ) → Fine before pairs next line → IsFaulty before pairs next line → ⊥
fine-or-faulty before pairs next line fine (inl (inl past)) = let within = fine.within in omega (arith, within, past)
fine-or-faulty before pairs next line fine (inl (inr (inl nothing))) = contradict fine.said fine.says
  where
    contradict : (said : Line) → Says (content line) said → ⊥
    contradict Separator says = nothing.0 says
    contradict (Position n) says = nothing.1 n says
    contradict (Pair node) says = nothing.2 node says
fine-or-faulty before pairs next line fine (inl (inr (inr (node, says, high)))) =
    let low = fine.low node (Says-unique (content line) fine.said (Pair node) fine.says says) in omega (arith, low, high)
fine-or-faulty before pairs next line fine (inr (inl (node, says, taken))) =
    false≢true (sym (fine.free node (Says-unique (content line) fine.said (Pair node) fine.says says)) ∙ taken)
fine-or-faulty before pairs next line fine (inr (inr (node, says, past))) =
    let fits = fine.fits node (Says-unique (content line) fine.said (Pair node) fine.says says) in omega (arith, fits, past)

-- ---- one first faulty line

-- a line that is faulty after good ones
pub record FaultyLine (before : List (List ℕ)) (line : List ℕ) (fault : LineFault) : Type 0 where
  pairs : List Placed
  next : ℕ
  good : AreGood before pairs next
  faulty : IsFaulty before pairs next line

faulty-line : (before : List (List ℕ)) (line : List ℕ) (fault : LineFault) → IsLineFault before line fault → FaultyLine before line fault
faulty-line before line Bad (pairs, next, good, bad) = record { pairs = pairs; next = next; good = good; faulty = inl bad }
faulty-line before line overlaps (pairs, next, good, _, taken) = record { pairs = pairs; next = next; good = good; faulty = inr (inl taken) }
faulty-line before line passes_sizes (pairs, next, good, _, _, past) = record { pairs = pairs; next = next; good = good; faulty = inr (inr past) }

-- no good lines go on with it
not-good : (before : List (List ℕ)) (line : List ℕ) (after : List (List ℕ)) (fault : LineFault) (pairs : List Placed) (next : ℕ)
    → IsLineFault before line fault → AreGood (before ++ line ∷ after) pairs next → ⊥
not-good before line after fault pairs next makes good =
    let f = faulty-line before line fault makes in
    fine-or-faulty before f.pairs f.next line (fine before line after pairs f.pairs next f.next good f.good) f.faulty

no_faulty : (text : List ℕ) (number : ℕ) (fault : LineFault) (pairs : List Placed) (next : ℕ) → AreGood (lines_of text) pairs next
    → HasFault IsLineFault text number fault → ⊥
no_faulty text number fault pairs next good (before, line, after, lines, _, makes) =
    not-good before line after fault pairs next makes (subst (λ l. AreGood l pairs next) lines good)

-- a line has one fault
module _ (before : List (List ℕ)) (line : List ℕ) where
  bad-alone : (others : List Placed) (last : ℕ) → IsLineFault before line Bad → AreGood before others last → ¬ (IsBad before last line) → ⊥
  bad-alone others last (pairs, next, good, bad) also fine =
      fine (subst (λ n. IsBad before n line) (good-unique before pairs others next last good also).1 bad)

  overlap-alone : (others : List Placed) (last : ℕ) → IsLineFault before line overlaps → AreGood before others last → ¬ (Overlaps others last line) → ⊥
  overlap-alone others last (pairs, next, good, _, taken) also free =
      let (same, at) = good-unique before pairs others next last good also in
      free (subst (λ n. Overlaps others n line) at (subst (λ l. Overlaps l next line) same taken))

  line-fault-unique : (a b : LineFault) → IsLineFault before line a → IsLineFault before line b → a ≡ b
  line-fault-unique Bad Bad h k = refl
  line-fault-unique overlaps overlaps h k = refl
  line-fault-unique passes_sizes passes_sizes h k = refl
  line-fault-unique Bad overlaps h (others, last, also, fine, _) = absurd (bad-alone others last h also fine)
  line-fault-unique Bad passes_sizes h (others, last, also, fine, _, _) = absurd (bad-alone others last h also fine)
  line-fault-unique overlaps Bad (others, last, also, fine, _) k = absurd (bad-alone others last k also fine)
  line-fault-unique passes_sizes Bad (others, last, also, fine, _, _) k = absurd (bad-alone others last k also fine)
  line-fault-unique overlaps passes_sizes h (others, last, also, _, free, _) = absurd (overlap-alone others last h also free)
  line-fault-unique passes_sizes overlaps (others, last, also, _, free, _) k = absurd (overlap-alone others last k also free)

-- one text has one first faulty line
first-fault-unique : (text : List ℕ) (n m : ℕ) (a b : LineFault) → HasFault IsLineFault text n a → HasFault IsLineFault text m b → (n ≡ m) × (a ≡ b)
first-fault-unique text n m a b (before, line, after, lines, is, first) (other_before, other, other_after, others, also, second) =
    choose (meets before (line ∷ after) other_before (other ∷ other_after) (sym lines ∙ others))
  where
    head : {x y : List ℕ} {xs ys : List (List ℕ)} → x ∷ xs ≡ y ∷ ys → x ≡ y
    head is = cc

    choose : Meets before (line ∷ after) other_before (other ∷ other_after) → (n ≡ m) × (a ≡ b)
    choose (at_one same rest) = (
      is ∙ ap (λ l. length l + 1) same ∙ sym also,
      line-fault-unique other_before other a b (subst (λ l. IsLineFault other_before l a) (head rest) (subst (λ l. IsLineFault l line a) same first)) second,
    )
    choose (before_it x gap parts rest) =
        let f = faulty-line other_before other b second in
        absurd (not-good before line gap a f.pairs f.next first
        (subst (λ l. AreGood l f.pairs f.next) (parts ∙ ap (λ x. before ++ x ∷ gap) (sym (head rest))) f.good))
    choose (after_it x gap parts rest) =
        let f = faulty-line before line a first in
        absurd (not-good other_before other gap b f.pairs f.next second
        (subst (λ l. AreGood l f.pairs f.next) (parts ∙ ap (λ x. other_before ++ x ∷ gap) (sym (head rest))) f.good))

-- a fault of a text's own is a gap, or that of its first faulty line
line_fault : ℕ → LineFault → Fault
line_fault number Bad = BadLine number
line_fault number overlaps = Overlap number
line_fault number passes_sizes = Sizes number

abbrev OfLine : List ℕ → Fault → Type 0
OfLine text fault = (number : ℕ) × (of : LineFault) × (fault ≡ line_fault number of) × HasFault IsLineFault text number of

own-fault : (text : List ℕ) (fault : Fault) → IsOwn fault → IsFaultOf text fault → ((fault ≡ Gap) × HasGap text) ⊎ OfLine text fault
unfolding line_fault
own-fault text (BadLine n) own has = inr (n, Bad, refl, has)
own-fault text (Overlap n) own has = inr (n, overlaps, refl, has)
own-fault text (Sizes n) own has = inr (n, passes_sizes, refl, has)
own-fault text Gap own gap = inl (refl, gap)
own-fault text Memory own h = absurd own
own-fault text Read own h = absurd own
own-fault text Write own h = absurd own

pub fault-unique : (text : List ℕ) (a b : Fault) → IsOwn a → IsFaultOf text a → IsOwn b → IsFaultOf text b → a ≡ b
fault-unique text a b own_a first own_b second = choose (own-fault text a own_a first) (own-fault text b own_b second)
  where
    never : (fault : Fault) → HasGap text → OfLine text fault → ⊥
    never fault (pairs, next, good, _) (n, of, _, has) = no_faulty text n of pairs next good has

    choose : ((a ≡ Gap) × HasGap text) ⊎ OfLine text a → ((b ≡ Gap) × HasGap text) ⊎ OfLine text b → a ≡ b
    choose (inl (is, _)) (inl (also, _)) = is ∙ sym also
    choose (inl (_, gap)) (inr made) = absurd (never b gap made)
    choose (inr made) (inl (_, gap)) = absurd (never a gap made)
    choose (inr (n, of, is, has)) (inr (m, other, also, had)) =
        let (number, same) = first-fault-unique text n m of other has had in
        is ∙ ap (λ k. line_fault k of) number ∙ ap (line_fault m) same ∙ sym also

pub never-both : (text output : List ℕ) (fault : Fault) → IsAnswer text output → IsOwn fault → IsFaultOf text fault → ⊥
never-both text output fault (pairs, next, good, whole, is_output) own is = choose (own-fault text fault own is)
  where
    choose : ((fault ≡ Gap) × HasGap text) ⊎ OfLine text fault → ⊥
    choose (inl (_, (others, last, also, gap))) =
        let (same, _) = good-unique (lines_of text) pairs others next last good also in
        gap (subst (λ l. IsWhole (length l) l) same whole)
    choose (inr (n, of, _, has)) = no_faulty text n of pairs next good has

-- ---- one output

output-unique : (pairs : List Node) (a b : List ℕ) → IsOutput pairs a → IsOutput pairs b → a ≡ b
output-unique pairs a b first second =
    first.text
    ∙ ap (λ root. output_text root first.file) (IsRootBy-unique parent first.is_root second.is_root)
    ∙ ap (output_text second.root) (file-unique pairs first.is_file second.is_file)
    ∙ sym second.text
  where
    file-unique : (pairs : List Node) {a b : List ℕ} → IsFileHash pairs (replicate 32 0) a → IsFileHash pairs (replicate 32 0) b → a ≡ b
    file-unique [] first second = first ∙ sym second
    file-unique (node ∷ more) (root, is_root, is) (other, also, same) =
        is ∙ ap (λ root. hash_of (keyed_hash (replicate 32 0) (bytes_of root))) (IsRootBy-unique parent is_root also) ∙ sym same

pub answer-unique : (text a b : List ℕ) → IsAnswer text a → IsAnswer text b → a ≡ b
answer-unique text a b (pairs, next, good, _, is) (others, last, also, _, second) =
    let (same, _) = good-unique (lines_of text) pairs others next last good also in
    output-unique (chunks_of others) a b (subst (λ l. IsOutput (chunks_of l) a) same is) second

output-exists : (pairs : List Node) → (output : List ℕ) × IsOutput pairs output
output-exists pairs =
    let (root, is_root) = root_exists parent pairs in
    let (file, is_file) = file-exists pairs root is_root in
    (output_text root file, record { root = root; file = file; is_root = is_root; is_file = is_file; text = refl })
  where
    file-exists : (pairs : List Node) (root : List ℕ) → IsRoot pairs root → (file : List ℕ) × IsFileHash pairs (replicate 32 0) file
    file-exists [] root is_root = (default_hash, refl)
    file-exists (node ∷ more) root is_root = (hash_of (keyed_hash (replicate 32 0) (bytes_of root)), (root, is_root, refl))

-- ---- there is one

abbrev Has : List ℕ → Type 0
Has text = ((output : List ℕ) × IsAnswer text output) ⊎ ((fault : Fault) × IsOwn fault × IsFaultOf text fault)

first_position : List Placed → ℕ
first_position [] = 0
first_position (p ∷ placed) = p.0

adjacent_or_not : (first : ℕ) (placed : List Placed) → (placed ≡ placed_from first (chunks_of placed)) ⊎ ¬ (placed ≡ placed_from first (chunks_of placed))
unfolding first_position
adjacent_or_not first [] = inl refl
adjacent_or_not first (p ∷ placed) = choose (cases_eq p.0 first) (adjacent_or_not (first + 1) placed)
  where
    choose : (p.0 ≡ first) ⊎ (p.0 ≢ first)
        → (placed ≡ placed_from (first + 1) (chunks_of placed)) ⊎ ¬ (placed ≡ placed_from (first + 1) (chunks_of placed))
        → (p ∷ placed ≡ placed_from first (chunks_of (p ∷ placed))) ⊎ ¬ (p ∷ placed ≡ placed_from first (chunks_of (p ∷ placed)))
    choose (inl here) (inl rest) = inl (ap (λ n. (n, p.1) ∷ placed) here ∙ ap (λ l. (first, p.1) ∷ l) rest)
    choose (inl here) (inr other) = inr (λ is. other (ap (drop 1) is))
    choose (inr other) _ = inr (λ is. other (ap first_position is))

module _ (text : List ℕ) where
  at_end : (pairs : List Placed) (next : ℕ) → AreGood (lines_of text) pairs next → Has text
  at_end pairs next good = choose (adjacent_or_not 0 pairs)
    where
      choose : (pairs ≡ placed_from 0 (chunks_of pairs)) ⊎ ¬ (pairs ≡ placed_from 0 (chunks_of pairs)) → Has text
      choose (inl whole) = let (output, is) = output-exists (chunks_of pairs) in inl (output, (pairs, next, good, (whole, refl), is))
      choose (inr gap) = inr (Gap, tt, (pairs, next, good, λ whole. gap whole.0))

  abbrev GoesOn : List (List ℕ) → Type 0
  GoesOn rest = (before : List (List ℕ)) (pairs : List Placed) (next : ℕ) → lines_of text ≡ before ++ rest → AreGood before pairs next → Has text

  first-fault : (rest before : List (List ℕ)) (pairs : List Placed) (next : ℕ) → lines_of text ≡ before ++ rest → AreGood before pairs next → Has text
  first-fault [] before pairs next is good =
      at_end pairs next (subst (λ l. AreGood l pairs next) (sym (is ∙ append-nil before)) good)
  first-fault (line ∷ rest) before pairs next is good =
      choose (cases_lt byte_limit (length (concat before) + length line)) (Says-decided (content line))
      (first-fault rest)
    where
      bad : IsBad before next line → Has text
      bad is_bad = inr (BadLine (length before + 1), tt, (before, line, rest, is, refl, (pairs, next, good, is_bad)))

      longer : lines_of text ≡ (before ++ line ∷ []) ++ rest
      longer = is ∙ sym (append_assoc before (line ∷ []) rest)

      a_pair : (node : Node) → SaysPair (content line) node → length (concat before) + length line ≤ byte_limit
          → (next < 2 ^ 64 - 1) ⊎ (2 ^ 64 - 1 ≤ next) → (is_taken pairs next ≡ true) ⊎ (is_taken pairs next ≡ false)
          → (total_size (chunks_of pairs) + node.1 < 2 ^ 64) ⊎ (2 ^ 64 ≤ total_size (chunks_of pairs) + node.1) → GoesOn rest → Has text
      a_pair node says within (inr high) _ _ more = bad (inr (inr (node, says, high)))
      a_pair node says within (inl low) (inl taken) _ more =
          inr (
            Overlap (length before + 1),
            tt,
            (before, line, rest, is, refl, (pairs, next, good, not_bad before next line node says low within, (node, says, taken))),
          )
      a_pair node says within (inl low) (inr free) (inr past) more =
          inr (
            Sizes (length before + 1),
            tt,
            (
              before,
              line,
              rest,
              is,
              refl,
              (
                pairs,
                next,
                good,
                not_bad before next line node says low within,
                (λ taken. false≢true (sym free ∙ taken.2)),
                (node, says, past),
              ),
            ),
          )
      a_pair node says within (inl low) (inr free) (inl fits) more =
          more (before ++ line ∷ []) (place pairs next (node ∷ [])) (next + 1) longer
          (AddsLine-pair pairs next line node says low (λ taken. false≢true (sym free ∙ taken))
          (let size = place-size pairs next (node ∷ []) in omega (arith, size, fits)) before within good)

      a_line : (said : Line) → Says (content line) said → length (concat before) + length line ≤ byte_limit → GoesOn rest → Has text
      a_line Separator says within more = more (before ++ line ∷ []) pairs next longer (AddsLine-separator pairs next line says before within good)
      a_line (Position named) says within more =
          more (before ++ line ∷ []) pairs named longer (AddsLine-position pairs next line named says before within good)
      a_line (Pair node) says within more =
          a_pair node says within (cases_lt next (2 ^ 64 - 1)) (cases_Bool (is_taken pairs next))
          (cases_lt (total_size (chunks_of pairs) + node.1) (2 ^ 64)) more

      choose : (byte_limit < length (concat before) + length line) ⊎ (length (concat before) + length line ≤ byte_limit)
          → ((said : Line) × Says (content line) said) ⊎ SaysNothing line → GoesOn rest → Has text
      choose (inl past) _ more = bad (inl past)
      choose (inr within) (inl (said, says)) more = a_line said says within more
      choose (inr within) (inr nothing) more = bad (inr (inl nothing))

pub answer-or-fault : (text : List ℕ) → Has text
answer-or-fault text =
    first-fault text (lines_of text) [] [] 0 refl AreGood-none
