use Rattle.std.proofs.Common.{map, take}
use Rattle.std.specs.List.{AllZip}
use Rattle.serde_json.specs.View.{view}
use Rattle.upload_session.specs.Hashes.{hashes_of}
use Rattle.session_json.specs.Reading.{ReadsHash}
use Rattle.session_json.proofs.lists.read_hashes.Given as goal

abbrev pub invariant-hashes : goal.invariant-hashes
invariant-hashes l = AllZip ReadsHash (map view (take l.value-index l.values)) (hashes_of l.nodes.items)
