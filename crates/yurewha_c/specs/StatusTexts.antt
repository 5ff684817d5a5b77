-- What each status means, in English.
use Rattle.std.specs.Prelude.{ℕ, ◌-◌, ◌==◌, nat_le, if◌then◌else◌, List, codes}

abbrev pub unknown_status : List ℕ
unknown_status = codes "unknown status"

-- how a subtree's value breaks a rule; the rules are 1 to 13
abbrev pub rule_text : ℕ → List ℕ
rule_text rule =
    if rule == 1 then codes "rule 1: the value isn't an object"
    else if rule == 2 then codes "rule 2: the nodes or levels aren't an array, or a mark isn't a boolean"
    else if rule == 3 then codes "rule 3: a node isn't a hash and a size"
    else if rule == 4 then codes "rule 4: a level isn't two counts"
    else if rule == 5 then codes "rule 5: there is no level"
    else if rule == 6 then codes "rule 6: the counts don't add up to the number of nodes"
    else if rule == 7 then codes "rule 7: the sizes add up to more than 2^64 - 1"
    else if rule == 8 then codes "rule 8: there are right nodes at the top, or although the end is marked"
    else if rule == 9 then codes "rule 9: there are left nodes below the top, although the start is marked"
    else if rule == 10 then codes "rule 10: the top has several nodes, although both ends are marked"
    else if rule == 11 then codes "rule 11: the top of several levels has no node"
    else if rule == 12 then codes "rule 12: left nodes don't end at a first stable point"
    else if rule == 13 then codes "rule 13: right nodes don't begin at a last stable point"
    else unknown_status

-- how a range proof's value breaks a rule; the rules are 1 to 8
abbrev pub proof_rule_text : ℕ → List ℕ
proof_rule_text rule =
    if rule == 1 then codes "rule 1: the range proof isn't an object, or has no byte"
    else if rule == 2 then codes "rule 2: the chunks or levels aren't an array"
    else if rule == 3 then codes "rule 3: a level isn't an object with two arrays, or two bytes"
    else if rule == 4 then codes "rule 4: a node isn't a hash and a size"
    else if rule == 5 then codes "rule 5: there is no chunk"
    else if rule == 6 then codes "rule 6: there are more than 64 levels"
    else if rule == 7 then codes "rule 7: a side of a level has more than 8 nodes"
    else if rule == 8 then codes "rule 8: the sizes add up to more than 2^64 - 1"
    else unknown_status

-- how a session's value breaks a rule; the rules are 1 to 7 but 5
abbrev pub session_rule_text : ℕ → List ℕ
session_rule_text rule =
    if rule == 1 then codes "rule 1: the session isn't an object"
    else if rule == 2 then codes "rule 2: the runs or known hashes aren't an array"
    else if rule == 3 then codes "rule 3: a run isn't an object with two positions and chunks"
    else if rule == 4 then codes "rule 4: a known hash isn't an array of four words"
    else if rule == 6 then codes "rule 6: a run has no position, a marked end, or no free position before it"
    else if rule == 7 then codes "rule 7: the sizes of all runs add up to more than 2^64 - 1"
    else unknown_status

-- what a status means; 16 plus the number of a subtree's rule is a status, 48 plus that of a
-- range proof's, and 64 plus that of a session's
abbrev pub status_text : ℕ → List ℕ
status_text status =
    if status == 0 then codes "the call succeeded"
    else if status == 1 then codes "the arguments don't fit together, or the requested thing doesn't exist"
    else if status == 2 then codes "sizes or lengths add up to more than 2^64 - 1"
    else if status == 3 then codes "out of memory"
    else if status == 4 then codes "a text doesn't have the expected form"
    else if status == 5 then codes "the room is too small"
    else if status == 6 then codes "a handle is empty"
    else if status == 7 then codes "the range proof doesn't show the hash, or the data isn't that of the range"
    else if status == 33 then codes "a position is taken"
    else if status == 34 then codes "the first position plus the number of chunks passes 2^64 - 1"
    else if status == 37 then codes "the taken positions aren't exactly those below the total"
    else if status == 38 then codes "the range proof isn't of the bytes that are asked for"
    else if status == 39 then codes "the range proof is of too many bytes beside those that are asked for"
    else if nat_le status 48 then rule_text (status - 16)
    else if nat_le status 64 then proof_rule_text (status - 48)
    else session_rule_text (status - 64)
