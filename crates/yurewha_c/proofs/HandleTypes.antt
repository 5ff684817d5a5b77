-- What the walks of a handle's calls need of its type, and the eight types of handles.
use mathlib.Core.Path.{◌≡◌, refl, ap, subst}
use mathlib.Core.List.{List}
use mir.Syntax.{Sym}
use mir.Val.{Val}
use base.Fml.{ftrue}
use denote.Exit.{yes, Last, left}
use denote.RattleType.{RattleType}
use denote.RawPtr.{Ptr}
use denote.Param.Laws.{Laws}
use Rattle.std.specs.Global.{Global}
use Rattle.std.specs.Prelude.{Option}
use Rattle.std_heap.specs.contracts.GlobalAllocator.TheImpl.{ghosts}
use Rattle.std_heap.proofs.Global.TheLaws as global_laws
use Rattle.yurewha_c.proofs.AsBox.{global_row}
use Rattle.yurewha_c.proofs.Handles.{held}
use Rattle.yurewha_c.specs.Rows.{subtree_row, session_row, hash_tree_row, opened_range_row, part_row, reader_row, hash_index_row, file_hasher_row}
use Rattle.yurewha_c.specs.contracts.subtree_handle.SubtreeHandle as subtree_handle
use Rattle.yurewha_c.specs.contracts.session_handle.SessionHandle as session_handle
use Rattle.yurewha_c.specs.contracts.hash_tree_handle.HashTreeHandle as hash_tree_handle
use Rattle.yurewha_c.specs.contracts.opened_range_handle.OpenedRangeHandle as opened_range_handle
use Rattle.yurewha_c.specs.contracts.part_handle.PartHandle as part_handle
use Rattle.yurewha_c.specs.contracts.reader_handle.ReaderHandle as reader_handle
use Rattle.yurewha_c.specs.contracts.hash_index_handle.HashIndexHandle as hash_index_handle
use Rattle.yurewha_c.specs.contracts.file_hasher_handle.FileHasherHandle as file_hasher_handle
use Rattle.yurewha_c.proofs.kept_file.KeptFile.TheLaws as file_hasher_laws
use Rattle.yurewha_c.proofs.kept_session.KeptSession.TheLaws as session_laws
use Rattle.hash_numbers.proofs.index.HashIndex.TheLaws as hash_index_laws
use Rattle.range_proof.proofs.hash_tree.HashTree.TheLaws as hash_tree_laws
use Rattle.range_proof.proofs.opened_range.OpenedRange.TheLaws as opened_range_laws
use Rattle.verified_reader.proofs.part.WantedPart.TheLaws as part_laws
use Rattle.verified_reader.proofs.reader.VerifiedReader.TheLaws as reader_laws
use Rattle.xet_merkle.proofs.merkle_hash_subtree.subtree.MerkleHashSubtree.TheLaws as subtree_laws

-- the fields of a handle: its pointer, its allocator, and the value that it owns
abbrev pub Fields : RattleType → Type 0
Fields R = Ptr × Global × Option R.Denot

-- A handle of the type `row` owns a value of the type `kept`. The prover computes nothing of a type that is a parameter, so
-- `owns` says what a handle owns, and `last` and `silent` that nothing is left to say of one that was passed.
pub record HandleType : Type 2 where
  pub kept : RattleType
  pub laws : Laws kept
  pub name : Sym
  pub row : RattleType
  pub of : Fields kept → row.Denot
  pub fields : row.Denot → Fields kept
  pub back : (f : Fields kept) → fields (of f) ≡ f
  pub owns : (h : row.Denot) (vs : List Val)
      → row.own_val h vs ≡ held kept laws (fields h).0 (fields h).1 (fields h).2 vs
  pub last : (h : row.Denot) → Last (row.exit yes) h
  pub silent : (h : row.Denot) (f : Last (row.exit yes) h) → left (row.exit yes) h f ≡ ftrue

module _ (Y : HandleType) where
  pub owned_of : (f : Fields Y.kept) (vs : List Val) → Y.row.own_val (Y.of f) vs ≡ held Y.kept Y.laws f.0 f.1 f.2 vs
  owned_of f vs =
      subst (λ (g : Fields Y.kept). Y.row.own_val (Y.of f) vs ≡ held Y.kept Y.laws g.0 g.1 g.2 vs) (Y.back f) (Y.owns (Y.of f) vs)

  pub value_of : (f : Fields Y.kept) → (Y.fields (Y.of f)).2 ≡ f.2
  value_of f = ap (λ (g : Fields Y.kept). g.2) (Y.back f)

abbrev pub subtrees : HandleType
subtrees = record {
  kept = subtree_row;
  laws = subtree_laws.the_row_laws global_row ghosts global_laws.the_row_laws;
  name = subtree_handle.struct.name;
  row = subtree_handle.the_row;
  of = λ f. record { at = f.0; alloc = f.1; value = f.2 };
  fields = λ h. (h.at, h.alloc, h.value);
  back = λ f. refl;
  owns = λ h vs. refl;
  last = λ h. tt;
  silent = λ h f. refl;
}

abbrev pub sessions : HandleType
sessions = record {
  kept = session_row;
  laws = session_laws.the_row_laws;
  name = session_handle.struct.name;
  row = session_handle.the_row;
  of = λ f. record { at = f.0; alloc = f.1; value = f.2 };
  fields = λ h. (h.at, h.alloc, h.value);
  back = λ f. refl;
  owns = λ h vs. refl;
  last = λ h. tt;
  silent = λ h f. refl;
}

abbrev pub hash_trees : HandleType
hash_trees = record {
  kept = hash_tree_row;
  laws = hash_tree_laws.the_row_laws global_row ghosts global_laws.the_row_laws;
  name = hash_tree_handle.struct.name;
  row = hash_tree_handle.the_row;
  of = λ f. record { at = f.0; alloc = f.1; value = f.2 };
  fields = λ h. (h.at, h.alloc, h.value);
  back = λ f. refl;
  owns = λ h vs. refl;
  last = λ h. tt;
  silent = λ h f. refl;
}

abbrev pub opened_ranges : HandleType
opened_ranges = record {
  kept = opened_range_row;
  laws = opened_range_laws.the_row_laws global_row ghosts global_laws.the_row_laws;
  name = opened_range_handle.struct.name;
  row = opened_range_handle.the_row;
  of = λ f. record { at = f.0; alloc = f.1; value = f.2 };
  fields = λ h. (h.at, h.alloc, h.value);
  back = λ f. refl;
  owns = λ h vs. refl;
  last = λ h. tt;
  silent = λ h f. refl;
}

abbrev pub parts : HandleType
parts = record {
  kept = part_row;
  laws = part_laws.the_row_laws global_row ghosts global_laws.the_row_laws;
  name = part_handle.struct.name;
  row = part_handle.the_row;
  of = λ f. record { at = f.0; alloc = f.1; value = f.2 };
  fields = λ h. (h.at, h.alloc, h.value);
  back = λ f. refl;
  owns = λ h vs. refl;
  last = λ h. tt;
  silent = λ h f. refl;
}

abbrev pub readers : HandleType
readers = record {
  kept = reader_row;
  laws = reader_laws.the_row_laws global_row ghosts global_laws.the_row_laws;
  name = reader_handle.struct.name;
  row = reader_handle.the_row;
  of = λ f. record { at = f.0; alloc = f.1; value = f.2 };
  fields = λ h. (h.at, h.alloc, h.value);
  back = λ f. refl;
  owns = λ h vs. refl;
  last = λ h. tt;
  silent = λ h f. refl;
}

abbrev pub hash_indexes : HandleType
hash_indexes = record {
  kept = hash_index_row;
  laws = hash_index_laws.the_row_laws global_row ghosts global_laws.the_row_laws;
  name = hash_index_handle.struct.name;
  row = hash_index_handle.the_row;
  of = λ f. record { at = f.0; alloc = f.1; value = f.2 };
  fields = λ h. (h.at, h.alloc, h.value);
  back = λ f. refl;
  owns = λ h vs. refl;
  last = λ h. tt;
  silent = λ h f. refl;
}

abbrev pub file_hashers : HandleType
file_hashers = record {
  kept = file_hasher_row;
  laws = file_hasher_laws.the_row_laws;
  name = file_hasher_handle.struct.name;
  row = file_hasher_handle.the_row;
  of = λ f. record { at = f.0; alloc = f.1; value = f.2 };
  fields = λ h. (h.at, h.alloc, h.value);
  back = λ f. refl;
  owns = λ h vs. refl;
  last = λ h. tt;
  silent = λ h f. refl;
}
