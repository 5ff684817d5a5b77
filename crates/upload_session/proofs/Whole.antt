-- One run that has the positions below a total, and its chunks.
use Rattle.std.proofs.Common.{arith, ◌≡◌, ◌↔◌, ◌+◌, ◌<◌, ◌≤◌, ℕ, List, [], ◌∷◌, ◌++◌, length, drop, replicate, refl, sym, ap, subst, ◌∙◌}
use Rattle.std.specs.Prelude.{Option, None, Some, IfNone, IfSome, option_to_list, slice_get, is_some}
use Rattle.std.proofs.lemmas.Bool.{true≢false}
use Rattle.std.proofs.lemmas.Option.{same_Some}
use Rattle.std.proofs.lemmas.List.{append-nil, length-append}
use Rattle.std.proofs.lemmas.List.Elements.{All-head}
use Rattle.xet_roots.specs.Groups.{Node}
use Rattle.chunk_ranges.specs.declared.chunk_range.ChunkRange as chunk_range
use Rattle.xet_roots.specs.Roots.{salted_root, IsRoot, IsFileHash}
use Rattle.upload_session.specs.Session.{Placed, PlacedRun, placed_from, chunks_of, AreFrom, Cover, HaveFileHash, HaveRoot, HaveSaltedHash, IsRunOf, IsWhole, StandFor}
use Rattle.upload_session.proofs.Placing.{chunks-placed}

pub length-placed : (first : ℕ) (chunks : List Node) → length (placed_from first chunks) ≡ length chunks
length-placed first [] = refl
length-placed first (chunk ∷ chunks) = omega (arith, length-placed (first + 1) chunks)

-- adjacent positions that begin as others do
head_position : List Placed → ℕ
head_position [] = 0
head_position (p ∷ placed) = p.0

same-first : (first other : ℕ) (all chunks : List Node) (rest : List Placed) → 0 < length chunks
    → placed_from first all ≡ placed_from other chunks ++ rest → first ≡ other
unfolding head_position
same-first first other all [] rest some is = absurd (omega (arith, some))
same-first first other [] (chunk ∷ chunks) rest some is = absurd (omega (arith, ap length is))
same-first first other (head ∷ all) (chunk ∷ chunks) rest some is = ap head_position is

-- what stands after the first of adjacent positions
rest-adjacent : (first other : ℕ) (all chunks : List Node) (rest : List Placed) → placed_from first all ≡ placed_from other chunks ++ rest
    → (more : List Node) × (rest ≡ placed_from (first + length chunks) more)
rest-adjacent first other all [] rest is = (all, sym is ∙ ap (λ n. placed_from n all) (omega arith))
rest-adjacent first other [] (chunk ∷ chunks) rest is = absurd (omega (arith, ap length is))
rest-adjacent first other (head ∷ all) (chunk ∷ chunks) rest is =
    let (more, same) = rest-adjacent (first + 1) (other + 1) all chunks rest (ap (drop 1) is) in
    (more, same ∙ ap (λ n. placed_from n more) (omega arith))

module _ {C : Type 0} where
  pub only : (runs : List (PlacedRun C)) (run : PlacedRun C) → length runs ≤ 1 → slice_get runs 0 ≡ Some run → runs ≡ run ∷ []
  only [] run few is = absurd (true≢false (sym (ap is_some is)))
  only (first ∷ []) run few is = ap option_to_list is
  only (first ∷ next ∷ runs) run few is = absurd (omega (arith, few))

  -- where runs have the positions below a total, the first run has them, and is the only one
  pub cover-first : (total : ℕ) (runs : List (PlacedRun C)) (run : PlacedRun C) → Cover total runs → slice_get runs 0 ≡ Some run
      → (run.0 ≡ 0) × (run.1.end ≡ total) × (length runs ≡ 1)
  cover-first total [] run covers is = absurd (true≢false (sym (ap is_some is)))
  cover-first total (first ∷ []) run (begins, ends) is =
      let same = same_Some first run is in
      (ap (λ (run : PlacedRun C). run.0) (sym same) ∙ begins, ap (λ (run : PlacedRun C). run.1.end) (sym same) ∙ ends, refl)
  cover-first total (first ∷ next ∷ runs) run covers is = absurd covers

module _ {C A : Type 0} (kind : chunk_range.Ghosts C A) where
  -- what one run stands for
  of-one : (run : PlacedRun C) (placed : List Placed) → StandFor kind (run ∷ []) placed
      → (placed ≡ placed_from run.0 (chunks_of placed)) × IsRunOf kind (chunks_of placed) run
  of-one run placed (chunks, others, is, of_run, apart, none) =
      let all = is ∙ ap (λ l. placed_from run.0 chunks ++ l) none ∙ append-nil (placed_from run.0 chunks) in
      let same : chunks ≡ chunks_of placed = sym (ap chunks_of all ∙ chunks-placed run.0 chunks) in
      (all ∙ ap (placed_from run.0) same, subst (λ l. IsRunOf kind l run) same of_run)

  -- no runs stand for no chunk
  no-runs : (runs : List (PlacedRun C)) → StandFor kind runs [] → runs ≡ []
  no-runs [] stand = refl
  no-runs (run ∷ runs) (chunks, others, is, of_run, apart, rest) =
      absurd (omega (arith, ap length is, length-append (placed_from run.0 chunks) others, length-placed run.0 chunks, of_run.0))

  -- where the positions are those below a total, there is one run of all
  whole-first : (run : PlacedRun C) (runs : List (PlacedRun C)) (placed : List Placed) (total : ℕ) → StandFor kind (run ∷ runs) placed → IsWhole total placed
      → (run.0 ≡ 0) × (run.1.end ≡ total) × (runs ≡ [])
  whole-first run runs placed total (chunks, others, is, of_run, apart, rest) (adjacent, long) =
      let all = sym adjacent ∙ is in
      let begins = same-first 0 run.0 (chunks_of placed) chunks others of_run.0 all in
      let (more, beyond) = rest-adjacent 0 run.0 (chunks_of placed) chunks others all in
      let none = ends more beyond begins in
      let count = ap length is ∙ length-append (placed_from run.0 chunks) others in (
        sym begins,
        omega (arith, of_run.1, begins, long, count, length-placed run.0 chunks, ap length none),
        no-runs runs (subst (λ l. StandFor kind runs l) none rest),
      )
    where
      ends : (more : List Node) → others ≡ placed_from (0 + length chunks) more → 0 ≡ run.0 → others ≡ []
      ends [] is begins = is
      ends (chunk ∷ more) beyond begins =
          let far = All-head (λ (p : Placed). run.1.end + 1 ≤ p.0) (0 + length chunks, chunk) (placed_from (0 + length chunks + 1) more)
          (subst (λ l. AreFrom (run.1.end + 1) l) beyond apart) in
          absurd (omega (arith, far, of_run.1, begins))

  -- runs cover the positions below a total where the positions of their chunks are those
  whole_covers : (total : ℕ) (runs : List (PlacedRun C)) (placed : List Placed) → StandFor kind runs placed → IsWhole total placed → Cover total runs
  whole_covers total [] placed none whole = sym whole.1 ∙ ap length none
  whole_covers total (run ∷ []) placed stand whole = let (begins, ends, alone) = whole-first run [] placed total stand whole in (begins, ends)
  whole_covers total (run ∷ next ∷ runs) placed stand whole =
      let (begins, ends, alone) = whole-first run (next ∷ runs) placed total stand whole in absurd (omega (arith, ap length alone))

  covers-whole : (total : ℕ) (runs : List (PlacedRun C)) (placed : List Placed) → StandFor kind runs placed → Cover total runs → IsWhole total placed
  covers-whole total [] placed none covers = (none ∙ ap (λ l. placed_from 0 (chunks_of l)) (sym none), ap length none ∙ sym covers)
  covers-whole total (run ∷ []) placed stand (first, last) =
      let (is, of_run) = of-one run placed stand in (
        is ∙ ap (λ n. placed_from n (chunks_of placed)) first,
        ap length is ∙ length-placed run.0 (chunks_of placed) ∙ omega (arith, of_run.1, first, last),
      )
  covers-whole total (run ∷ next ∷ runs) placed stand covers = absurd covers

  pub whole_cover : (total : ℕ) (runs : List (PlacedRun C)) (placed : List Placed) → StandFor kind runs placed → IsWhole total placed ↔ Cover total runs
  whole_cover total runs placed stand = (whole_covers total runs placed stand, covers-whole total runs placed stand)

  -- the root and the file hash of the range of one run, or of none, are those of all chunks
  pub root-placed : (total : ℕ) (runs : List (PlacedRun C)) (placed : List Placed) (root : List ℕ) → StandFor kind runs placed → Cover total runs
      → HaveRoot kind runs root → IsRoot (chunks_of placed) root
  root-placed total [] placed root none covers has = subst (λ l. IsRoot (chunks_of l) root) (sym none) has
  root-placed total (run ∷ []) placed root stand covers has = has (chunks_of placed) (of-one run placed stand).1.2
  root-placed total (run ∷ next ∷ runs) placed root stand covers has = absurd covers

  pub salted-placed : (salt : List ℕ) (total : ℕ) (runs : List (PlacedRun C)) (placed : List Placed) (file : List ℕ) → StandFor kind runs placed
      → Cover total runs → HaveSaltedHash kind salt runs file → IsFileHash (chunks_of placed) salt file
  salted-placed salt total [] placed file none covers has = subst (λ l. IsFileHash (chunks_of l) salt file) (sym none) has
  salted-placed salt total (run ∷ []) placed file stand covers has =
      let (is, of_run) = of-one run placed stand in salted (chunks_of placed) of_run.0 (has (chunks_of placed) of_run.2)
    where
      salted : (chunks : List Node) → 0 < length chunks → (root : List ℕ) × IsRoot chunks root × (file ≡ salted_root salt root)
          → IsFileHash chunks salt file
      salted [] some of_root = absurd (omega (arith, some))
      salted (chunk ∷ chunks) some of_root = of_root
  salted-placed salt total (run ∷ next ∷ runs) placed file stand covers has = absurd covers

  -- what is said of the range of all chunks, if there is one, is said of the run
  module _ {R : Type 0} (now : R → C) (root file : List ℕ) where
    pub root-of : (found : Option R) (runs : List (PlacedRun C)) → IfNone found (runs ≡ [])
        → IfSome found (λ range. (run : PlacedRun C) × (runs ≡ run ∷ []) × (now range ≡ run.1.range))
        → IfNone found (IsRoot [] root × IsFileHash [] (replicate 32 0) file)
        → IfSome found (λ range. (chunks : List Node) → kind.stands (now range) chunks → IsRoot chunks root) → HaveRoot kind runs root
    root-of None runs none range of_none of_some = subst (λ (runs : List (PlacedRun C)). HaveRoot kind runs root) (sym none) of_none.0
    root-of (Some found) runs none (run, is, same) of_none of_some =
        subst (λ (runs : List (PlacedRun C)). HaveRoot kind runs root) (sym is)
        (λ chunks stands. of_some chunks (subst (λ range. kind.stands range chunks) (sym same) stands))

    pub file-of : (found : Option R) (runs : List (PlacedRun C)) → IfNone found (runs ≡ [])
        → IfSome found (λ range. (run : PlacedRun C) × (runs ≡ run ∷ []) × (now range ≡ run.1.range))
        → IfNone found (IsRoot [] root × IsFileHash [] (replicate 32 0) file)
        → IfSome found (λ range. (chunks : List Node) → kind.stands (now range) chunks → IsRoot chunks root)
        → IfSome found (λ _. file ≡ salted_root (replicate 32 0) root) → HaveFileHash kind runs file
    file-of None runs none range of_none of_some salted = subst (λ (runs : List (PlacedRun C)). HaveFileHash kind runs file) (sym none) of_none.1
    file-of (Some found) runs none (run, is, same) of_none of_some salted =
        subst (λ (runs : List (PlacedRun C)). HaveFileHash kind runs file) (sym is)
        (λ chunks stands. (root, of_some chunks (subst (λ range. kind.stands range chunks) (sym same) stands), salted))
