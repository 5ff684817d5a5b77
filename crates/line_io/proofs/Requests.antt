-- What the words of some arguments request.
use Rattle.std.proofs.Common.{ℕ, List, Result, Ok, Err, IfOk, subst}
use Rattle.std.specs.declared.string.String.{String}
use Rattle.std.specs.declared.vec.IntoIter.{IntoIter}
use Rattle.line_io.specs.Requests.{AskForHelp, HasWords, words_of}

-- where some arguments ask for the help, so do the words that they have
pub words-ask_for_help : {A E : Type 0} (args : Result (IntoIter (String A) A) E) (words : List (List ℕ))
    → IfOk args (λ args. AskForHelp (words_of args)) → HasWords args words → AskForHelp words
words-ask_for_help (Ok args) words asks is = subst AskForHelp is asks
words-ask_for_help (Err error) words asks is = absurd is
