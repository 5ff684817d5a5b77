-- How many parents a maker may have made while levels are merged.
use Rattle.std.specs.Prelude.{ℕ, ◌^◌}

-- A maker may make a hash only if it made fewer than 2 ^ 100 before, so that its count fits 128 bits. One level has
-- fewer than 2 ^ 64 parents, so a level may begin if at most 2 ^ 99 were made. A merge stays far below that: nodes,
-- levels and parents together never grow in it, and each operand has fewer than 2 ^ 64 nodes and fewer than 2 ^ 64
-- levels.
abbrev pub most_made : ℕ
most_made = 2 ^ 99
