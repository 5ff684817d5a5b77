use Rattle.std.proofs.Common.{◌≡◌, ◌≤◌, ℕ, IsUtf8, Some, List, [], ◌∷◌, ◌++◌, sym, ap, subst, ◌∙◌, arith}
use Rattle.serde_json.specs.Data.{depth}
use Rattle.serde_json.specs.Read.{max_depth, read}
use Rattle.serde_json.specs.View.{view}
use Rattle.serde_json.specs.Written.{compact_text, has_float}
use Rattle.json_text.specs.JsonText.{IsJsonText}
use Rattle.json_text.proofs.Written.{written_shallow}
use Rattle.line_io.specs.Lines.{newline}
use Rattle.xet_merkle.specs.SubtreeJson.{subtree_json}
use Rattle.xet_merkle.specs.JsonRules.{Reads}
use Rattle.xetrange_text.proofs.Depth.{subtree_depth}
use Rattle.xetrange_text.proofs.range_line.write_range.Goals as goal

pub returns : goal.returns
returns g c = λ is_open.
    let range = c.args.range.now in
    let is = c.in-Ok.ensures.json in
    let plain = ap has_float is ∙ c.subtree_json_has_no_float.ensures range in
    let text = c.in_ok-line.ensures.text plain ∙ ap compact_text is in
    let shallow : depth (view c.in-Ok.value) ≤ max_depth = subst (λ d. depth d ≤ max_depth) (sym is) (omega (arith, subtree_depth range)) in
    let back = c.in_ok-line.ensures.reads_back shallow in
    let reads : IsJsonText (compact_text (subtree_json range)) (subtree_json range) = record {
      utf8 = subst IsUtf8 text c.in_ok-line.ensures.utf8;
      shallow = written_shallow (subtree_json range) (omega (arith, subtree_depth range));
      value_is = subst (λ l. read l ≡ Some (subtree_json range)) text (back ∙ ap Some is);
    } in
    record {
      text = c.in_ok-push.ensures.items ∙ ap (λ (l : List ℕ). l ++ newline ∷ []) text;
      says = (subtree_json range, reads, subst (λ d. Reads d range) is c.in-Ok.ensures.says, is_open);
    }
