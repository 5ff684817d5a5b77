use Rattle.std.proofs.Common.{arith, ◌≡◌, ◌+◌, ◌-◌, ◌<◌, ◌≤◌, ℕ, true, List, ◌∷◌, length, drop, get_or, sym, ap, ◌∙◌}
use Rattle.std.proofs.lemmas.List.{drop_more, drop-drop}
use Rattle.xet_roots.specs.Groups.{Node}
use Rattle.range_proof.specs.Differing.{take_last}
use Rattle.range_proof.proofs.differing.common_suffix.Goals as goal

-- one more of the last nodes
last-more : (nodes : List Node) (k : ℕ) (node : Node) → k < length nodes → node ≡ get_or nodes (length nodes - 1 - k) node
    → take_last (k + 1) nodes ≡ node ∷ take_last k nodes
last-more nodes k node inside is =
    let i = length nodes - (k + 1) in
    let within : i < length nodes = omega arith in
    let place : i ≡ length nodes - 1 - k = omega arith in
    let next : i + 1 ≡ length nodes - k = omega arith in
    drop_more nodes i node within
    ∙ ap (λ (n : ℕ). get_or nodes n node ∷ drop (i + 1) nodes) place
    ∙ ap (λ (first : Node). first ∷ drop (i + 1) nodes) (sym is)
    ∙ ap (λ (n : ℕ). node ∷ drop n nodes) next

-- fewer of the last nodes
last-fewer : (nodes : List Node) (more k : ℕ) → k < more → more ≤ length nodes → drop (more - (k + 1)) (take_last more nodes) ≡ take_last (k + 1) nodes
last-fewer nodes more k fewer inside =
    let place : length nodes - more + (more - (k + 1)) ≡ length nodes - (k + 1) = omega arith in
    drop-drop (more - (k + 1)) (length nodes - more) nodes ∙ ap (λ (n : ℕ). drop n nodes) place

-- lists whose last nodes are the same have the same node at each place from the end
same_at : (first second : List Node) (more k : ℕ) (a b : Node) → k < more → more ≤ length first → more ≤ length second
    → a ≡ get_or first (length first - 1 - k) a → b ≡ get_or second (length second - 1 - k) b
    → take_last more first ≡ take_last more second → a ≡ b
same_at first second more k a b fewer in_first in_second is_a is_b same =
    let k_first : k < length first = omega arith in
    let k_second : k < length second = omega arith in
    let lists : a ∷ take_last k first ≡ b ∷ take_last k second =
    sym (last-more first k a k_first is_a) ∙ sym (last-fewer first more k fewer in_first)
    ∙ ap (λ (nodes : List Node). drop (more - (k + 1)) nodes) same
    ∙ last-fewer second more k fewer in_second ∙ last-more second k b k_second is_b in
    cc

pub returns-then-not-are_same : goal.returns-then-not-are_same
returns-then-not-are_same c =
    let first = c.args.first.now in
    let second = c.args.second.now in
    record {
      at_most = omega (arith, c.min.ensures, c.min-most.ensures);
      within_first = omega (arith, c.min.ensures, c.min-most.ensures);
      within_second = omega (arith, c.min.ensures, c.min-most.ensures);
      same = c.nodes.invariant;
      longest = λ more above at_most in_first in_second same.
          let equal = same_at first second more c.nodes.k c.index-first-first.result c.index-second-second.result above in_first in_second
          c.index-first-first.is c.index-second-second.is same in
          let yes : c.are_same.result ≡ true = c.are_same.ensures.1 equal in
          absurd (cc);
    }

pub nodes-preserved : goal.nodes-preserved
nodes-preserved c =
    let first = c.args.first.now in
    let second = c.args.second.now in
    let k = c.nodes.k in
    let a = c.index-first-first.result in
    let b = c.index-second-second.result in
    let in_first : k < length first = omega (arith, c.min.ensures, c.min-most.ensures) in
    let in_second : k < length second = omega (arith, c.min.ensures, c.min-most.ensures) in
    let same : a ≡ b = c.are_same.ensures.0 c.if-not-are_same.false in
    last-more first k a in_first c.index-first-first.is
    ∙ ap (λ (node : Node). node ∷ take_last k first) same
    ∙ ap (λ (nodes : List Node). b ∷ nodes) c.nodes.invariant
    ∙ sym (last-more second k b in_second c.index-second-second.is)
