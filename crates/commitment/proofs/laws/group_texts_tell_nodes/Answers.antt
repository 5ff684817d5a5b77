use Rattle.std.proofs.lemmas.List.Elements.{recursion_from_All}
use Rattle.commitment.proofs.Commitment.Texts.{group_text_tells_nodes}
use Rattle.commitment.proofs.laws.group_texts_tell_nodes.Goals as goal

pub returns : goal.returns
returns c = λ group other h k fits e.
    group_text_tells_nodes group other (recursion_from_All _ group h) (recursion_from_All _ group fits) (recursion_from_All _ other k) e
