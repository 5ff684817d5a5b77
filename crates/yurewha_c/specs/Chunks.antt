-- Chunks as C passes them, and their nodes.
use Rattle.std.specs.Prelude.{List, map}
use Rattle.xet_merkle.specs.Groups.{Node}
use Rattle.yurewha_c.specs.declared.chunks.Chunk.{Chunk}

abbrev pub node_of : Chunk → Node
node_of chunk = (chunk.hash.words, chunk.size)

abbrev pub nodes_of : List Chunk → List Node
nodes_of chunks = map node_of chunks
