use Rattle.std.proofs.Common.{◌≡◌, ◌≤◌, ℕ, IsUtf8, Some, List, [], ◌∷◌, ◌++◌, sym, ap, subst, ◌∙◌, arith}
use Rattle.serde_json.specs.Data.{depth}
use Rattle.serde_json.specs.Read.{max_depth, read}
use Rattle.serde_json.specs.View.{view}
use Rattle.serde_json.specs.Written.{compact_text, has_float}
use Rattle.json_text.specs.JsonText.{IsJsonText}
use Rattle.json_text.proofs.Written.{written_shallow}
use Rattle.line_io.specs.Lines.{newline}
use Rattle.range_proof.specs.ProofJson.{proof_json, Reads}
use Rattle.xetrange_text.proofs.Depth.{proof_depth}
use Rattle.xetrange_text.proofs.proof_line.write_proof.Goals as goal

pub returns : goal.returns
returns g c =
    let proof = c.args.proof.now in
    let is = c.in-Ok.ensures.json in
    let plain = ap has_float is ∙ c.proof_json_has_no_float.ensures proof in
    let text = c.in_ok-line.ensures.text plain ∙ ap compact_text is in
    let shallow : depth (view c.in-Ok.value) ≤ max_depth = subst (λ d. depth d ≤ max_depth) (sym is) (omega (arith, proof_depth proof)) in
    let back = c.in_ok-line.ensures.reads_back shallow in
    let reads : IsJsonText (compact_text (proof_json proof)) (proof_json proof) = record {
      utf8 = subst IsUtf8 text c.in_ok-line.ensures.utf8;
      shallow = written_shallow (proof_json proof) (omega (arith, proof_depth proof));
      value_is = subst (λ l. read l ≡ Some (proof_json proof)) text (back ∙ ap Some is);
    } in
    record {
      text = c.in_ok-push.ensures.items ∙ ap (λ (l : List ℕ). l ++ newline ∷ []) text;
      says = (proof_json proof, reads, subst (λ d. Reads d proof) is c.in-Ok.ensures.says);
    }
