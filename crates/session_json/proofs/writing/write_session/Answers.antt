use Rattle.std.proofs.Common.{◌≡◌, ℕ, Bool, true, false, List, [], Result, Ok, Err, IfOk, refl, sym, subst, ◌∙◌}
use Rattle.std.specs.declared.alloc.Global.{Global}
use Rattle.std.proofs.lemmas.Bool.{true≢false}
use Rattle.serde_json.specs.Written.{compact_text}
use Rattle.subtree_levels.specs.Subtree.{Subtree}
use Rattle.upload_session.specs.Hashes.{Hash}
use Rattle.upload_session.specs.Session.{Parts}
use Rattle.upload_session.specs.declared.kept_hashes.SeenHashes.{SeenHashes}
use Rattle.session_json.specs.SessionJson.{session_json, AreKnownInOrder, IsTextOf}
use Rattle.session_json.proofs.writing.write_session.Goals as goal

-- a text of the runs of a session and of hashes is its text, where these are the hashes that are wanted
text_of : {X E : Type 0} (result : Result X E) (items : X → List ℕ) (session : Parts Subtree (SeenHashes Global)) (with_hashes : Bool) (hashes : List Hash)
    → (with_hashes ≡ true → AreKnownInOrder session.kept hashes) → (with_hashes ≡ false → hashes ≡ [])
    → IfOk result (λ text. items text ≡ compact_text (session_json session.runs hashes)) → IfOk result (λ text. IsTextOf session with_hashes (items text))
text_of (Ok text) items session with_hashes hashes all none is = record { hashes = hashes; all = all; none = none; text_is = is }
text_of (Err e) items session with_hashes hashes all none is = tt

pub returns-then-not-with_hashes : goal.returns-then-not-with_hashes
returns-then-not-with_hashes c =
    text_of c.session_text.result (λ text. text.items) c.args.session.now c.args.with_hashes []
    (λ with_hashes. absurd (true≢false (sym with_hashes ∙ c.if-not-with_hashes.true))) (λ _. refl) c.session_text.ensures

pub returns : goal.returns
returns c =
    text_of c.session_text-2.result (λ text. text.items) c.args.session.now c.args.with_hashes c.deref.result.now
    (λ _. subst (AreKnownInOrder c.args.session.now.kept) (sym c.deref.ensures.value) c.in_ok-hashes.ensures)
    (λ without. absurd (true≢false (sym c.if-not-with_hashes.false ∙ without))) c.session_text-2.ensures
