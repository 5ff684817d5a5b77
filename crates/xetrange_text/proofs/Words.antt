-- Words that request a command request nothing else.
use Rattle.std.proofs.Common.{◌≡◌, ℕ, List, [], ◌∷◌, codes, decimal, inl, inr, refl, sym, ap, subst, ◌∙◌, arith, Result, Ok, Err, IfOk, IfErr}
use Rattle.std.specs.Str.{str_to_ascii_lowercase}
use Rattle.std.proofs.lemmas.Fmt.{decimal_injective}
use Rattle.xet_hash.proofs.Hash.Laws.{hex_text-injective}
use Rattle.std.specs.declared.string.String.{String}
use Rattle.std.specs.declared.vec.IntoIter.{IntoIter}
use Rattle.line_io.specs.Requests.{AskForHelp, AskForVersion, words_of}
use Rattle.xetrange_text.specs.declared.command.Command.{Command}
use Rattle.xetrange_text.specs.declared.command.Command.TheVariants.{Make, Join, Root, Prove, Verify}
use Rattle.xetrange_text.specs.Words.{AskFor, HasCommand}

-- the first of some words
abbrev first_word : List (List ℕ) → List ℕ
first_word [] = []
first_word (word ∷ words) = word

-- the word of a command
abbrev word_of : Command → List ℕ
word_of Make = codes "make"
word_of Join = codes "join"
word_of Root = codes "root"
word_of (Prove first end) = codes "prove"
word_of (Verify file_hash from to) = codes "verify"

first-is : (words : List (List ℕ)) (command : Command) → AskFor words command → first_word words ≡ word_of command
first-is words Make asks = ap first_word asks
first-is words Join asks = ap first_word asks
first-is words Root asks = ap first_word asks
first-is words (Prove first end) asks = ap first_word asks.0
first-is words (Verify file_hash from to) asks = ap first_word asks.1

-- the first letter of a command, which tells it from the others
abbrev letter : Command → ℕ
letter Make = 109
letter Join = 106
letter Root = 114
letter (Prove first end) = 112
letter (Verify file_hash from to) = 118

abbrev first_byte : List ℕ → ℕ
first_byte [] = 0
first_byte (byte ∷ bytes) = byte

letter-is : (command : Command) → first_byte (word_of command) ≡ letter command
letter-is Make = refl
letter-is Join = refl
letter-is Root = refl
letter-is (Prove first end) = refl
letter-is (Verify file_hash from to) = refl

no_dash : (command : Command) → letter command ≡ 45 → ⊥
no_dash Make is = omega (arith, is)
no_dash Join is = omega (arith, is)
no_dash Root is = omega (arith, is)
no_dash (Prove first end) is = omega (arith, is)
no_dash (Verify file_hash from to) is = omega (arith, is)

some_letter : (command : Command) → letter command ≡ 0 → ⊥
some_letter Make is = omega (arith, is)
some_letter Join is = omega (arith, is)
some_letter Root is = omega (arith, is)
some_letter (Prove first end) is = omega (arith, is)
some_letter (Verify file_hash from to) is = omega (arith, is)

differs : (command : Command) (word : List ℕ) → word_of command ≡ word → ¬ (word ≡ codes "-h") × ¬ (word ≡ codes "--help") × ¬ (word ≡ codes "--version") × ¬ (word ≡ [])
differs command word is =
    let first : letter command ≡ first_byte word = sym (letter-is command) ∙ ap first_byte is in (
      (λ other. no_dash command (first ∙ ap first_byte other)),
      (λ other. no_dash command (first ∙ ap first_byte other)),
      (λ other. no_dash command (first ∙ ap first_byte other)),
      (λ other. some_letter command (first ∙ ap first_byte other)),
    )

pub no_help : (words : List (List ℕ)) (command : Command) → AskFor words command → AskForHelp words → ⊥
no_help words command asks (inl is) = (differs command (first_word words) (sym (first-is words command asks))).0 (ap first_word is)
no_help words command asks (inr is) = (differs command (first_word words) (sym (first-is words command asks))).1 (ap first_word is)

pub no_version : (words : List (List ℕ)) (command : Command) → AskFor words command → AskForVersion words → ⊥
no_version words command asks is = (differs command (first_word words) (sym (first-is words command asks))).2 (ap first_word is)

pub some_word : (words : List (List ℕ)) (command : Command) → AskFor words command → words ≡ [] → ⊥
some_word words command asks is = (differs command (first_word words) (sym (first-is words command asks))).3 (ap first_word is)

letters : (words : List (List ℕ)) (a b : Command) → AskFor words a → AskFor words b → letter a ≡ letter b
letters words a b asks also =
    sym (letter-is a) ∙ ap first_byte (sym (first-is words a asks) ∙ first-is words b also) ∙ letter-is b

-- words request at most one command
pub same_command : (words : List (List ℕ)) (a b : Command) → AskFor words a → AskFor words b → a ≡ b
same_command words Make Make asks also = refl
same_command words Make Join asks also = absurd (omega (arith, letters words Make Join asks also))
same_command words Make Root asks also = absurd (omega (arith, letters words Make Root asks also))
same_command words Make (Prove first end) asks also = absurd (omega (arith, letters words Make (Prove first end) asks also))
same_command words Make (Verify file_hash from to) asks also = absurd (omega (arith, letters words Make (Verify file_hash from to) asks also))
same_command words Join Make asks also = absurd (omega (arith, letters words Join Make asks also))
same_command words Join Join asks also = refl
same_command words Join Root asks also = absurd (omega (arith, letters words Join Root asks also))
same_command words Join (Prove first end) asks also = absurd (omega (arith, letters words Join (Prove first end) asks also))
same_command words Join (Verify file_hash from to) asks also = absurd (omega (arith, letters words Join (Verify file_hash from to) asks also))
same_command words Root Make asks also = absurd (omega (arith, letters words Root Make asks also))
same_command words Root Join asks also = absurd (omega (arith, letters words Root Join asks also))
same_command words Root Root asks also = refl
same_command words Root (Prove first end) asks also = absurd (omega (arith, letters words Root (Prove first end) asks also))
same_command words Root (Verify file_hash from to) asks also = absurd (omega (arith, letters words Root (Verify file_hash from to) asks also))
same_command words (Prove first end) Make asks also = absurd (omega (arith, letters words (Prove first end) Make asks also))
same_command words (Prove first end) Join asks also = absurd (omega (arith, letters words (Prove first end) Join asks also))
same_command words (Prove first end) Root asks also = absurd (omega (arith, letters words (Prove first end) Root asks also))
same_command words (Prove first end) (Prove other last) asks also =
    let same = sym asks.0 ∙ also.0 in
    let firsts : decimal first ≡ decimal other = cc same in
    let ends : decimal end ≡ decimal last = cc same in
    let f = decimal_injective first other asks.1 also.1 firsts in
    let e = decimal_injective end last asks.2 also.2 ends in
    ap (λ n. Prove n end) f ∙ ap (λ n. Prove other n) e
same_command words (Prove first end) (Verify file_hash from to) asks also = absurd (omega (arith, letters words (Prove first end) (Verify file_hash from to) asks also))
same_command words (Verify file_hash from to) Make asks also = absurd (omega (arith, letters words (Verify file_hash from to) Make asks also))
same_command words (Verify file_hash from to) Join asks also = absurd (omega (arith, letters words (Verify file_hash from to) Join asks also))
same_command words (Verify file_hash from to) Root asks also = absurd (omega (arith, letters words (Verify file_hash from to) Root asks also))
same_command words (Verify file_hash from to) (Prove first end) asks also = absurd (omega (arith, letters words (Verify file_hash from to) (Prove first end) asks also))
same_command words (Verify file_hash from to) (Verify other start stop) (digits, asks, hex, low_from, low_to) (more, also, other_hex, low_start, low_stop) =
    let same = sym asks ∙ also in
    let texts : digits ≡ more = cc same in
    let froms : decimal from ≡ decimal start = cc same in
    let tos : decimal to ≡ decimal stop = cc same in
    let h = hex_text-injective file_hash other hex.is_hash other_hex.is_hash (hex.reads ∙ ap str_to_ascii_lowercase texts ∙ sym other_hex.reads) in
    let f = decimal_injective from start low_from low_start froms in
    let t = decimal_injective to stop low_to low_stop tos in
    ap (λ n. Verify n from to) h ∙ ap (λ n. Verify other n to) f ∙ ap (λ n. Verify other start n) t

-- ---- arguments

module _ {A E : Type 0} where
  pub help-no_command : (args : Result (IntoIter (String A) A) E) (command : Command) → IfOk args (λ args. AskForHelp (words_of args)) → HasCommand args command → ⊥
  help-no_command (Ok args) command help has = no_help (words_of args) command has help
  help-no_command (Err error) command help has = absurd has

  pub version-no_command : (args : Result (IntoIter (String A) A) E) (command : Command) → IfOk args (λ args. AskForVersion (words_of args)) → HasCommand args command → ⊥
  version-no_command (Ok args) command version has = no_version (words_of args) command has version
  version-no_command (Err error) command version has = absurd has

  pub nothing-no_command : (args : Result (IntoIter (String A) A) E) (command : Command) → IfOk args (λ args. words_of args ≡ []) → HasCommand args command → ⊥
  nothing-no_command (Ok args) command none has = some_word (words_of args) command has none
  nothing-no_command (Err error) command none has = absurd has

  -- what the arguments request if their words are a word and those after it
  abbrev AreWords : Result (IntoIter (String A) A) E → List (List ℕ) → Type 0
  AreWords args words = IfOk args (λ args. (words_of args ≡ words) × (¬ (AskForHelp (words_of args))) × (¬ (AskForVersion (words_of args))))

  -- the command of their words is the one that the arguments have
  pub the_command : (args : Result (IntoIter (String A) A) E) (words : List (List ℕ)) (a b : Command) → AreWords args words → AskFor words a → HasCommand args b → a ≡ b
  the_command (Ok args) words a b are asks has = same_command words a b asks (subst (λ (w : List (List ℕ)). AskFor w b) are.0 has)
  the_command (Err error) words a b are asks has = absurd has

  pub has_command : (args : Result (IntoIter (String A) A) E) (words : List (List ℕ)) (a : Command) → AreWords args words → IfErr args (λ _. ⊥) → AskFor words a → HasCommand args a
  has_command (Ok args) words a are readable asks = subst (λ (w : List (List ℕ)). AskFor w a) (sym are.0) asks
  has_command (Err error) words a are readable asks = absurd readable
