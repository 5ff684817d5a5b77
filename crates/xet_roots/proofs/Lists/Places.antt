-- Two ways to cut a list in two: at the same place, or one before the other.
use Rattle.std.proofs.Common.{◌≡◌, List, [], ◌∷◌, ◌++◌, refl, sym}

-- the places in front of b and of d in one list
pub data Meets {A : Type 0} : List A → List A → List A → List A → Type 0 where
  same : {a b c d : List A} → a ≡ c → b ≡ d → Meets a b c d
  earlier : {a b c d : List A} (x : A) (gap : List A) → c ≡ a ++ x ∷ gap → b ≡ x ∷ gap ++ d → Meets a b c d
  later : {a b c d : List A} (x : A) (gap : List A) → a ≡ c ++ x ∷ gap → d ≡ x ∷ gap ++ b → Meets a b c d

Meets-push : {A : Type 0} {x y : A} {a b c d : List A} → x ≡ y → Meets a b c d → Meets (x ∷ a) b (y ∷ c) d
Meets-push e (same p q) = same (cc) q
Meets-push e (earlier z gap p q) = earlier z gap (cc) q
Meets-push e (later z gap p q) = later z gap (cc) q

pub meets : {A : Type 0} (a b c d : List A) → a ++ b ≡ c ++ d → Meets a b c d
meets [] b [] d e = same refl e
meets [] b (y ∷ c) d e = earlier y c refl e
meets (x ∷ a) b [] d e = later x a refl (sym e)
meets (x ∷ a) b (y ∷ c) d e =
    let tails : a ++ b ≡ c ++ d = cc in
    let heads : x ≡ y = cc in
    Meets-push heads (meets a b c d tails)
