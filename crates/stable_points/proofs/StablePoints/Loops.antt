-- The scan for stable points by index, as the loops do it.
use Rattle.std.proofs.Common.{◌≡◌, ℕ, ◌+◌, ◌-◌, ◌<◌, ◌≤◌, Bool, true, false, Option, Some, None, IfSome, IfNone, inl, inr, List, [], ◌∷◌, ◌++◌, length, take, drop, get_or, refl, sym, ap, subst, ◌∙◌, arith, append_assoc, length-append, length-take}
use Rattle.std.proofs.lemmas.Bool.{cases_Bool}
use Rattle.std.proofs.lemmas.List.{take-append-drop, take_at, drop_at, take_more, drop_more, take-append-le, drop-append-le, take_all}
use Rattle.xet_roots.specs.Groups.{Node, is_cut}
use Rattle.stable_points.specs.StablePoints.{EndsStable, NoStable, IsFirstStable, IsLastStable}
use Rattle.stable_points.specs.Steps.StableScan.{completes, next_scan, IsFront}
use Rattle.stable_points.specs.declared.search.CutScan.{CutScan}
use Rattle.stable_points.proofs.StablePoints.CutPlaces.{EndsWithCut-one}
use Rattle.stable_points.proofs.Lists.PlaceSearch.{same_place}
use Rattle.stable_points.proofs.StablePoints.Scan.{stable_ends, IsScanned, IsScanned-none, IsScanned-plain, IsScanned-cut, NoStable-more, IsLastStable-more, IsLastStable-new, IsFirstStable-new, IsFirstStable-append}

-- the scan of some nodes
abbrev pub Scanned : List Node → CutScan → Type 0
Scanned front scan = IsScanned front scan.has_cut scan.ends_stable scan.since_cut

pub Scanned-push : (front : List Node) (scan : CutScan) (node : Node) → Scanned front scan → Scanned (front ++ node ∷ []) (next_scan scan (is_cut node))
Scanned-push front scan node h = elim (cases_Bool (is_cut node)) [
  | inl cut ↦
      subst (λ (b : Bool). Scanned (front ++ node ∷ []) (next_scan scan b)) (sym cut)
      (IsScanned-cut front scan.has_cut scan.ends_stable scan.since_cut node h cut)
  | inr not_cut ↦
      subst (λ (b : Bool). Scanned (front ++ node ∷ []) (next_scan scan b)) (sym not_cut)
      (IsScanned-plain front scan.has_cut scan.ends_stable scan.since_cut node h not_cut)
]

pub since_more : (scan : CutScan) (is_cut : Bool) → (next_scan scan is_cut).since_cut ≤ scan.since_cut + 1
since_more scan true = omega arith
since_more scan false = omega arith

-- ---- the first stable place

NoStable-short : (nodes : List Node) → length nodes ≤ 1 → NoStable nodes
NoStable-short nodes few left right e stable =
    let long = (stable_ends left stable.ends).1 in
    let len = ap length e in
    omega (arith, length-append left right)

-- there is none among the first nodes
pub record NoneSoFar (nodes : List Node) (i : ℕ) (scan : CutScan) : Type 0 where
  pub scanned : Scanned (take i nodes) scan
  pub none : NoStable (take i nodes)

pub NoneSoFar-none : (nodes : List Node) → NoneSoFar nodes 0 (record { has_cut = false; ends_stable = false; since_cut = 0 })
NoneSoFar-none nodes = record { scanned = IsScanned-none; none = NoStable-short [] (omega arith) }

pub NoneSoFar-more : (nodes : List Node) (i : ℕ) (scan : CutScan) (d : Node) → i < length nodes → completes scan (is_cut (get_or nodes i d)) ≡ false →
    NoneSoFar nodes i scan → NoneSoFar nodes (i + 1) (next_scan scan (is_cut (get_or nodes i d)))
NoneSoFar-more nodes i scan d within no_new h =
    let more = take_more nodes i d within in
    let node = get_or nodes i d in record {
      scanned = subst (λ (l : List Node). Scanned l (next_scan scan (is_cut node))) (sym more) (Scanned-push (take i nodes) scan node h.scanned);
      none = subst NoStable (sym more) (NoStable-more (take i nodes) scan.has_cut scan.ends_stable scan.since_cut node h.scanned no_new h.none);
    }

-- the nodes after a head, at a node
around_head : (nodes : List Node) (i : ℕ) (d : Node) (head tail : List Node) → i < length nodes → take i nodes ≡ head ++ tail →
    nodes ≡ head ++ ((tail ++ get_or nodes i d ∷ []) ++ drop (i + 1) nodes)
around_head nodes i d head tail within e =
    let node = get_or nodes i d in
    let back = drop (i + 1) nodes in
    sym (take-append-drop i nodes)
    ∙ ap (λ (l : List Node). take i nodes ++ l) (drop_more nodes i d within)
    ∙ ap (λ (l : List Node). l ++ node ∷ back) e
    ∙ append_assoc head tail (node ∷ back)
    ∙ ap (λ (l : List Node). head ++ l) (sym (append_assoc tail (node ∷ []) back))

pub NoneSoFar-found : (nodes : List Node) (i : ℕ) (scan : CutScan) (d : Node) → i < length nodes → scan.since_cut ≤ i → completes scan (is_cut (get_or nodes i d)) ≡ true →
    NoneSoFar nodes i scan → IsFirstStable (take (i - scan.since_cut) nodes) (drop (i - scan.since_cut) nodes)
NoneSoFar-found nodes i scan d within since new h =
    let node = get_or nodes i d in
    let s = h.scanned in
    let back = drop (i + 1) nodes in
    let first = IsFirstStable-new (take i nodes) scan.has_cut scan.ends_stable scan.since_cut node s new h.none in
    let longer = IsFirstStable-append s.head (s.tail ++ node ∷ []) back first in
    let since_is = s.since_is in
    let len_take = ap length s.parts in
    let len : length s.head ≡ i - scan.since_cut = omega (arith, length-append s.head s.tail, length-take i nodes) in
    let whole = around_head nodes i d s.head s.tail within s.parts in
    let rest = (s.tail ++ node ∷ []) ++ back in
    let place = i - scan.since_cut in
    subst (λ (l : List Node). IsFirstStable (take place l) (drop place l)) (sym whole)
    (rw (take_at s.head rest place len, drop_at s.head rest place len) longer)

pub NoneSoFar-all : (nodes : List Node) (i : ℕ) (scan : CutScan) → length nodes ≤ i → NoneSoFar nodes i scan → NoStable nodes
NoneSoFar-all nodes i scan all h = subst NoStable (take_all i nodes all) h.none

-- ---- the last stable place

-- the last stable place of some nodes after a front, if there is one
abbrev pub FoundLast : Option ℕ → List Node → List Node → Type 0
FoundLast None front nodes = NoStable (front ++ nodes)
FoundLast (Some place) front nodes = IsLastStable (front ++ take place nodes) (drop place nodes)

pub record LastSoFar (nodes : List Node) (i : ℕ) (scan : CutScan) (found : Option ℕ) (front : List Node) : Type 0 where
  pub scanned : Scanned (front ++ take i nodes) scan
  pub last : FoundLast found front (take i nodes)

pub Scanned-more : (nodes : List Node) (i : ℕ) (scan : CutScan) (front : List Node) (d : Node) → i < length nodes → Scanned (front ++ take i nodes) scan →
    Scanned (front ++ take (i + 1) nodes) (next_scan scan (is_cut (get_or nodes i d)))
Scanned-more nodes i scan front d within h =
    let node = get_or nodes i d in
    let more : (front ++ take i nodes) ++ node ∷ [] ≡ front ++ take (i + 1) nodes =
    append_assoc front (take i nodes) (node ∷ []) ∙ ap (λ (l : List Node). front ++ l) (sym (take_more nodes i d within)) in
    subst (λ (l : List Node). Scanned l (next_scan scan (is_cut node))) more (Scanned-push (front ++ take i nodes) scan node h)

FoundLast-more : (found : Option ℕ) (front nodes : List Node) (scan : CutScan) (node : Node) → Scanned (front ++ nodes) scan → completes scan (is_cut node) ≡ false →
    IfSome found (λ p. p ≤ length nodes) → FoundLast found front nodes → FoundLast found front (nodes ++ node ∷ [])
FoundLast-more None front nodes scan node scanned no_new within h =
    subst NoStable (append_assoc front nodes (node ∷ []))
    (NoStable-more (front ++ nodes) scan.has_cut scan.ends_stable scan.since_cut node scanned no_new h)
FoundLast-more (Some place) front nodes scan node scanned no_new within h =
    let whole : front ++ nodes ≡ (front ++ take place nodes) ++ drop place nodes =
    ap (λ (l : List Node). front ++ l) (sym (take-append-drop place nodes)) ∙ sym (append_assoc front (take place nodes) (drop place nodes)) in
    rw (take-append-le place nodes (node ∷ []) within, drop-append-le place nodes (node ∷ []) within)
    (IsLastStable-more (front ++ nodes) scan.has_cut scan.ends_stable scan.since_cut node scanned (front ++ take place nodes) (drop place nodes) no_new whole h)

pub LastSoFar-more : (nodes : List Node) (i : ℕ) (scan : CutScan) (found : Option ℕ) (front : List Node) (d : Node) → i < length nodes →
    IfSome found (λ p. p ≤ i) → completes scan (is_cut (get_or nodes i d)) ≡ false → LastSoFar nodes i scan found front →
    LastSoFar nodes (i + 1) (next_scan scan (is_cut (get_or nodes i d))) found front
LastSoFar-more nodes i scan found front d within bound no_new h =
    let node = get_or nodes i d in
    let more = take_more nodes i d within in
    let len : i ≡ length (take i nodes) = omega (arith, length-take i nodes) in record {
      scanned = Scanned-more nodes i scan front d within h.scanned;
      last = subst (FoundLast found front) (sym more)
          (FoundLast-more found front (take i nodes) scan node h.scanned no_new (subst (λ (n : ℕ). IfSome found (λ p. p ≤ n)) len bound) h.last);
    }

pub LastSoFar-found : (nodes : List Node) (i : ℕ) (scan : CutScan) (found : Option ℕ) (front : List Node) (d : Node) → i < length nodes → scan.since_cut ≤ i →
    completes scan (is_cut (get_or nodes i d)) ≡ true → LastSoFar nodes i scan found front →
    LastSoFar nodes (i + 1) (next_scan scan (is_cut (get_or nodes i d))) (Some (i - scan.since_cut)) front
LastSoFar-found nodes i scan found front d within since new h =
    let node = get_or nodes i d in
    let s = h.scanned in
    let longer = take i nodes ++ node ∷ [] in
    let place = i - scan.since_cut in
    let last = IsLastStable-new (front ++ take i nodes) scan.has_cut scan.ends_stable scan.since_cut node s new in
    let since_is = s.since_is in
    let len_parts = ap length s.parts in
    let len_take = length-take i nodes in
    let len_place = length-take place longer in
    let len : length (front ++ take place longer) ≡ length s.head =
    omega (arith, length-append front (take place longer), length-append front (take i nodes), length-append s.head s.tail, length-append (take i nodes) (node ∷ [])) in
    let whole : (front ++ take place longer) ++ drop place longer ≡ s.head ++ (s.tail ++ node ∷ []) =
    append_assoc front (take place longer) (drop place longer)
    ∙ ap (λ (l : List Node). front ++ l) (take-append-drop place longer)
    ∙ sym (append_assoc front (take i nodes) (node ∷ []))
    ∙ ap (λ (l : List Node). l ++ node ∷ []) s.parts
    ∙ append_assoc s.head s.tail (node ∷ []) in
    let at = same_place (front ++ take place longer) (drop place longer) s.head (s.tail ++ node ∷ []) whole len in
    let here : FoundLast (Some place) front longer = rw (at.0, at.1) last in record {
      scanned = Scanned-more nodes i scan front d within h.scanned;
      last = subst (FoundLast (Some place) front) (sym (take_more nodes i d within)) here;
    }

not_stable_one : (cut : Node) → EndsStable (cut ∷ []) → ⊥
not_stable_one cut h = let long = (stable_ends (cut ∷ []) h).1 in omega arith

pub LastSoFar-none : (nodes : List Node) (after_cut : Bool) (front : List Node) → IsFront after_cut front →
    LastSoFar nodes 0 (record { has_cut = after_cut; ends_stable = false; since_cut = 0 }) None front
LastSoFar-none nodes false front h =
    subst (LastSoFar nodes 0 (record { has_cut = false; ends_stable = false; since_cut = 0 }) None) (sym h)
    (record { scanned = IsScanned-none; last = NoStable-short [] (omega arith) })
LastSoFar-none nodes true front h =
    let cut = h.0 in
    let after : LastSoFar nodes 0 (record { has_cut = true; ends_stable = false; since_cut = 0 }) None (cut ∷ []) = record {
      scanned = record {
        head = cut ∷ [];
        tail = [];
        parts = refl;
        no_cut = tt;
        since_is = refl;
        head_is = (EndsWithCut-one cut h.2, not_stable_one cut);
      };
      last = NoStable-short (cut ∷ []) (omega arith);
    } in
    subst (LastSoFar nodes 0 (record { has_cut = true; ends_stable = false; since_cut = 0 }) None) (sym h.1) after

pub LastSoFar-last : (nodes : List Node) (i : ℕ) (scan : CutScan) (found : Option ℕ) (after_cut : Bool) → length nodes ≤ i →
    ((front : List Node) → IsFront after_cut front → LastSoFar nodes i scan found front) →
    IfSome found (λ p. (front : List Node) → IsFront after_cut front → IsLastStable (front ++ take p nodes) (drop p nodes))
LastSoFar-last nodes i scan None after_cut all h = tt
LastSoFar-last nodes i scan (Some place) after_cut all h = λ front is_front.
    subst (FoundLast (Some place) front) (take_all i nodes all) (h front is_front).last

pub LastSoFar-no_place : (nodes : List Node) (i : ℕ) (scan : CutScan) (found : Option ℕ) (after_cut : Bool) → length nodes ≤ i →
    ((front : List Node) → IsFront after_cut front → LastSoFar nodes i scan found front) →
    IfNone found ((front : List Node) → IsFront after_cut front → NoStable (front ++ nodes))
LastSoFar-no_place nodes i scan (Some place) after_cut all h = tt
LastSoFar-no_place nodes i scan None after_cut all h = λ front is_front.
    subst (FoundLast None front) (take_all i nodes all) (h front is_front).last

-- after nothing
pub last_after_nothing : (nodes : List Node) (found : Option ℕ) →
    IfSome found (λ p. (front : List Node) → IsFront false front → IsLastStable (front ++ take p nodes) (drop p nodes)) →
    IfSome found (λ p. IsLastStable (take p nodes) (drop p nodes))
last_after_nothing nodes None h = tt
last_after_nothing nodes (Some place) h = h [] refl

pub none_after_nothing : (nodes : List Node) (found : Option ℕ) →
    IfNone found ((front : List Node) → IsFront false front → NoStable (front ++ nodes)) → IfNone found (NoStable nodes)
none_after_nothing nodes (Some place) h = tt
none_after_nothing nodes None h = h [] refl
