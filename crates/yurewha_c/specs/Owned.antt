-- What a handle owns: nothing if its pointer is null, or else what a box at that pointer owns.
use base.Fml.{Fml, ffalse, ftrue}
use base.Stored.{Coded}
use denote.RattleType.{RattleType}
use denote.RawPtr.{Ptr, null_ptr, block_ptr}
use Rattle.std.specs.Prelude.{Option, Some, None}
use Rattle.std.specs.Coded.{coded_option}
use Rattle.std.specs.Box.Ownership.{box_owns}
use Rattle.std.specs.Global.{Global}
use Rattle.std.specs.contracts.impls.GlobalAllocator.TheImpl.{ghosts}
use Rattle.yurewha_c.specs.Rows.{subtree_row, session_row, hash_tree_row, opened_range_row, part_row, reader_row, hash_index_row, file_hasher_row}

-- a pointer that is null
abbrev pub IsNull : Ptr → Fml
IsNull null_ptr = ftrue
IsNull (block_ptr b o) = ffalse

abbrev pub owns_kept : (R : RattleType) → Global → Ptr → Option R.Denot → Fml
owns_kept R alloc at None = IsNull at
owns_kept R alloc at (Some kept) = box_owns (ghosts.dealloc_token alloc) R at kept

abbrev pub owns_subtree : Global → Ptr → Option subtree_row.Denot → Fml
owns_subtree = owns_kept subtree_row

abbrev pub subtree_code : Coded (Option subtree_row.Denot)
subtree_code = coded_option subtree_row.coded

abbrev pub owns_session : Global → Ptr → Option session_row.Denot → Fml
owns_session = owns_kept session_row

abbrev pub session_code : Coded (Option session_row.Denot)
session_code = coded_option session_row.coded

abbrev pub owns_hash_tree : Global → Ptr → Option hash_tree_row.Denot → Fml
owns_hash_tree = owns_kept hash_tree_row

abbrev pub hash_tree_code : Coded (Option hash_tree_row.Denot)
hash_tree_code = coded_option hash_tree_row.coded

abbrev pub owns_opened_range : Global → Ptr → Option opened_range_row.Denot → Fml
owns_opened_range = owns_kept opened_range_row

abbrev pub opened_range_code : Coded (Option opened_range_row.Denot)
opened_range_code = coded_option opened_range_row.coded

abbrev pub owns_part : Global → Ptr → Option part_row.Denot → Fml
owns_part = owns_kept part_row

abbrev pub part_code : Coded (Option part_row.Denot)
part_code = coded_option part_row.coded

abbrev pub owns_reader : Global → Ptr → Option reader_row.Denot → Fml
owns_reader = owns_kept reader_row

abbrev pub reader_code : Coded (Option reader_row.Denot)
reader_code = coded_option reader_row.coded

abbrev pub owns_hash_index : Global → Ptr → Option hash_index_row.Denot → Fml
owns_hash_index = owns_kept hash_index_row

abbrev pub hash_index_code : Coded (Option hash_index_row.Denot)
hash_index_code = coded_option hash_index_row.coded

abbrev pub owns_file_hasher : Global → Ptr → Option file_hasher_row.Denot → Fml
owns_file_hasher = owns_kept file_hasher_row

abbrev pub file_hasher_code : Coded (Option file_hasher_row.Denot)
file_hasher_code = coded_option file_hasher_row.coded
