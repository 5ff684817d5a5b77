-- The types that handles own, as the logic describes them.
use denote.RattleType.{RattleType}
use Rattle.std.specs.contracts.alloc.Global as global
use Rattle.std.specs.contracts.impls.GlobalAllocator.TheImpl.{ghosts}
use Rattle.hash_numbers.specs.contracts.index.HashIndex as hash_index
use Rattle.range_proof.specs.contracts.hash_tree.HashTree as hash_tree
use Rattle.range_proof.specs.contracts.opened_range.OpenedRange as opened_range
use Rattle.xet_merkle.specs.contracts.merkle_hash_subtree.subtree.MerkleHashSubtree as subtree
use Rattle.verified_reader.specs.contracts.part.WantedPart as part
use Rattle.verified_reader.specs.contracts.reader.VerifiedReader as reader
use Rattle.yurewha_c.specs.contracts.kept_file.KeptFile as file_hasher
use Rattle.yurewha_c.specs.contracts.kept_session.KeptSession as session

abbrev pub subtree_row : RattleType
subtree_row = subtree.the_row global.the_row ghosts

abbrev pub session_row : RattleType
session_row = session.the_row

abbrev pub hash_tree_row : RattleType
hash_tree_row = hash_tree.the_row global.the_row ghosts

abbrev pub opened_range_row : RattleType
opened_range_row = opened_range.the_row global.the_row ghosts

abbrev pub part_row : RattleType
part_row = part.the_row global.the_row ghosts

abbrev pub reader_row : RattleType
reader_row = reader.the_row global.the_row ghosts

abbrev pub hash_index_row : RattleType
hash_index_row = hash_index.the_row global.the_row ghosts

abbrev pub file_hasher_row : RattleType
file_hasher_row = file_hasher.the_row
