use Rattle.std.proofs.Common.{List, sym, subst}
use Rattle.std.specs.Prelude.{All}
use Rattle.std.proofs.lemmas.List.Elements.{All-drop}
use Rattle.verified_reader.specs.Kept.{Chunk}
use Rattle.verified_reader.specs.Reader.{IsChecked, IsShownBy, Reader}
use Rattle.verified_reader.proofs.reader.VerifiedReader.keep_at_most.Goals as goal

pub invariant_of-self : goal.invariant_of-self
invariant_of-self g c =
    let inside = c.self.inside in
    let drops = c.drop_oldest.ensures in
    let (within, checks, shown) = c.self.invariant in (
      drops.fits,
      checks,
      record {
        kept = subst (λ (l : List Chunk). All (IsChecked checks inside.hash inside.salt) l) (sym drops.new_is)
            (All-drop (IsChecked checks inside.hash inside.salt) drops.dropped inside.chunks shown.kept);
        size = shown.size;
      },
    )

pub returns-clause-stays : goal.returns-clause-stays
returns-clause-stays g c = λ checks shown.
    let inside = c.self.inside in
    let drops = c.drop_oldest.ensures in
    let here = subst (λ (r : Reader). IsShownBy checks r) (sym c.self.view_is) shown in
    record {
      kept = subst (λ (l : List Chunk). All (IsChecked checks inside.hash inside.salt) l) (sym drops.new_is)
          (All-drop (IsChecked checks inside.hash inside.salt) drops.dropped inside.chunks here.kept);
      size = here.size;
    }
