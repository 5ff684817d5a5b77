-- What a scan for stable points keeps, and what comes before it. Only private contracts and proofs use it. What a
-- reader has to believe is in StablePoints.
use Rattle.std.specs.Prelude.{◌≡◌, ℕ, ◌+◌, ◌≤◌, Bool, true, false, not, ◌&&◌, nat_le, List, [], ◌∷◌, ◌++◌, length}
use Rattle.xet_roots.specs.Groups.{Node, is_cut, Cut}
use Rattle.stable_points.specs.StablePoints.{IsStable}
use Rattle.stable_points.specs.declared.search.CutScan.{CutScan}

-- whether two natural cuts with this many nodes between them are 3 to 7 nodes apart
abbrev pub is_stable_gap : ℕ → Bool
is_stable_gap between = nat_le 2 between && nat_le between 6

-- the scan after one natural cut
abbrev pub after_cut : CutScan
after_cut = record { has_cut = true; ends_stable = false; since_cut = 0 }

-- whether the next node is the third natural cut of a stable point: the nodes up to the natural cut before it end
-- stable, and the gap between the two has the right length
abbrev pub completes : CutScan → Bool → Bool
completes scan is_cut = is_cut && (scan.ends_stable && is_stable_gap scan.since_cut)

-- the scan after the next node
abbrev pub next_scan : CutScan → Bool → CutScan
next_scan scan true = record { has_cut = true; ends_stable = scan.has_cut && is_stable_gap scan.since_cut; since_cut = 0 }
next_scan scan false = record { has_cut = scan.has_cut; ends_stable = scan.ends_stable; since_cut = scan.since_cut + 1 }

-- what comes before the scanned nodes: one natural cut, or nothing
abbrev pub IsFront : Bool → List Node → Type 0
IsFront true front = (cut : Node) × (front ≡ cut ∷ []) × Cut cut
IsFront false front = front ≡ []

-- the scan after some nodes, and whether none of them is the third natural cut of a stable point
abbrev pub scan_after : CutScan → List Node → CutScan
scan_after scan [] = scan
scan_after scan (node ∷ nodes) = scan_after (next_scan scan (is_cut node)) nodes

abbrev pub completes_none : CutScan → List Node → Bool
completes_none scan [] = true
completes_none scan (node ∷ nodes) = not (completes scan (is_cut node)) && completes_none (next_scan scan (is_cut node)) nodes

-- appending nodes to others adds no stable point, even if one node comes before: each was a stable point already
abbrev pub AddsNoStable : List Node → List Node → Type 0
AddsNoStable nodes more = (front left right : List Node) → length front ≤ 1 → (front ++ nodes) ++ more ≡ left ++ right → IsStable left right →
    (rest : List Node) × (front ++ nodes ≡ left ++ rest) × IsStable left rest

-- putting nodes before others adds no stable point: each is among the others
abbrev pub AddsNoStableBefore : List Node → List Node → Type 0
AddsNoStableBefore more nodes = (left right : List Node) → more ++ nodes ≡ left ++ right → IsStable left right →
    (rest : List Node) × (left ≡ more ++ rest) × IsStable rest right
