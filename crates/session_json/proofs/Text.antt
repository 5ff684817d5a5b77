-- What is left to write of an array.
use Rattle.std.proofs.Common.{◌≡◌, ℕ, ◌+◌, ◌<◌, Bool, true, List, ◌∷◌, ◌++◌, length, map, drop, sym, ap, subst, ◌∙◌}
use Rattle.std.specs.Prelude.{get_or}
use Rattle.std.proofs.lemmas.List.{append_assoc, drop_more}
use Rattle.serde_json.specs.Data.{Data}
use Rattle.serde_json.specs.View.{items_of}
use Rattle.serde_json.specs.Written.{comma_if, compact_text, items_text}

module _ {X : Type 0} (json : X → Data) where
  -- a text is the whole but for the rest of the items and the closing bracket
  abbrev pub Lacks : List ℕ → List ℕ → Bool → List X → Type 0
  Lacks whole text later rest = text ++ items_text later (items_of (map json rest)) ≡ whole

  -- one more item is written
  pub lacks_next : (whole text : List ℕ) (later : Bool) (x : X) (rest : List X) → Lacks whole text later (x ∷ rest)
      → Lacks whole ((text ++ comma_if later) ++ compact_text (json x)) true rest
  lacks_next whole text later x rest lacks =
      append_assoc (text ++ comma_if later) (compact_text (json x)) (items_text true (items_of (map json rest)))
      ∙ append_assoc text (comma_if later) (compact_text (json x) ++ items_text true (items_of (map json rest))) ∙ lacks

  -- the same where the items are those of a list from a place on
  pub lacks_after : (whole text : List ℕ) (later : Bool) (items : List X) (i : ℕ) (x : X) → i < length items → x ≡ get_or items i x
      → Lacks whole text later (drop i items) → Lacks whole ((text ++ comma_if later) ++ compact_text (json x)) true (drop (i + 1) items)
  lacks_after whole text later items i x within is lacks =
      lacks_next whole text later x (drop (i + 1) items)
      (subst (Lacks whole text later) (drop_more items i x within ∙ ap (λ next. next ∷ drop (i + 1) items) (sym is)) lacks)

-- what comes of adding seven parts one after the other
pub joined : (text a b c d e f g ta tb tc td te tf tg : List ℕ) → ta ≡ text ++ a → tb ≡ ta ++ b → tc ≡ tb ++ c → td ≡ tc ++ d → te ≡ td ++ e
    → tf ≡ te ++ f → tg ≡ tf ++ g → tg ≡ text ++ (a ++ (b ++ (c ++ (d ++ (e ++ (f ++ g))))))
joined text a b c d e f g ta tb tc td te tf tg ha hb hc hd he hf hg =
    hg ∙ ap (λ t. t ++ g) hf ∙ append_assoc te f g
    ∙ ap (λ t. t ++ (f ++ g)) he ∙ append_assoc td e (f ++ g)
    ∙ ap (λ t. t ++ (e ++ (f ++ g))) hd ∙ append_assoc tc d (e ++ (f ++ g))
    ∙ ap (λ t. t ++ (d ++ (e ++ (f ++ g)))) hc ∙ append_assoc tb c (d ++ (e ++ (f ++ g)))
    ∙ ap (λ t. t ++ (c ++ (d ++ (e ++ (f ++ g))))) hb ∙ append_assoc ta b (c ++ (d ++ (e ++ (f ++ g))))
    ∙ ap (λ t. t ++ (b ++ (c ++ (d ++ (e ++ (f ++ g)))))) ha ∙ append_assoc text a (b ++ (c ++ (d ++ (e ++ (f ++ g)))))

-- what comes of adding nine
pub joined_nine : (text a b c d e f g h i ta tb tc td te tf tg th ti : List ℕ) → ta ≡ text ++ a → tb ≡ ta ++ b → tc ≡ tb ++ c → td ≡ tc ++ d
    → te ≡ td ++ e → tf ≡ te ++ f → tg ≡ tf ++ g → th ≡ tg ++ h → ti ≡ th ++ i
    → ti ≡ text ++ (a ++ (b ++ (c ++ (d ++ (e ++ (f ++ (g ++ (h ++ i))))))))
joined_nine text a b c d e f g h i ta tb tc td te tf tg th ti ha hb hc hd he hf hg hh hi =
    joined tb c d e f g h i tc td te tf tg th ti hc hd he hf hg hh hi
    ∙ ap (λ t. t ++ (c ++ (d ++ (e ++ (f ++ (g ++ (h ++ i))))))) (hb ∙ ap (λ t. t ++ b) ha ∙ append_assoc text a b)
    ∙ append_assoc text (a ++ b) (c ++ (d ++ (e ++ (f ++ (g ++ (h ++ i))))))
    ∙ ap (λ t. text ++ t) (append_assoc a b (c ++ (d ++ (e ++ (f ++ (g ++ (h ++ i)))))))
