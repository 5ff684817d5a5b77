-- What is written of a session reads as the same session.
use Rattle.std.proofs.Common.{arith, ◌≡◌, ℕ, suc, zero, ◌^◌, ◌<◌, ◌-◌, true, List, [], ◌∷◌, ◌++◌, get_or, length, map, take, codes, refl, sym, subst}
use Rattle.std.specs.Prelude.{All, IfSome, IsUtf8, slice_get}
use Rattle.std.specs.List.{AllByRecursion as Each, AllZip}
use Rattle.std.specs.declared.alloc.Global.{Global}
use Rattle.std.specs.Str.{str_to_ascii_lowercase}
use Rattle.std.proofs.lemmas.List.Elements.{All-get_or}
use Rattle.std.proofs.lemmas.List.Sums.{sum_by-cons}
use Rattle.json.proofs.Printed.Utf8.{IsUtf8-are_ascii}
use Rattle.json.specs.Print.{escape_byte}
use Rattle.std.proofs.lemmas.Str.{IsUtf8-append}
use Rattle.serde_json.specs.Data.{Data, array, member, no_members, object}
use Rattle.serde_json.specs.View.{items_of}
use Rattle.serde_json.specs.Written.{compact_text}
use Rattle.xet_hash.specs.Hash.{hex_text, IsHash, IsHexText}
use Rattle.level_nodes.specs.NodeJson.{number_json}
use Rattle.subtree_levels.specs.Levels.{levels_size}
use Rattle.subtree_levels.specs.Subtree.{Subtree}
use Rattle.xet_merkle.specs.SubtreeJson.{subtree_json}
use Rattle.xet_merkle.proofs.Json.OneMeaning.{Reads-object}
use Rattle.xet_merkle.proofs.Levels.Flat.{levels_size-flat}
use Rattle.upload_session.specs.Hashes.{Hash}
use Rattle.upload_session.specs.Session.{Parts, PlacedRun, AreApart, CanFollow, EndBefore}
use Rattle.upload_session.specs.declared.kept_hashes.SeenHashes.{SeenHashes}
use Rattle.upload_session.specs.Subtrees.{subtrees}
use Rattle.session_json.specs.Reading.{size_of, CanFollowEach, IsStrictText, ReadsHash, ReadsRun, SaysSession}
use Rattle.session_json.specs.SessionJson.{hash_json, run_json, session_json, IsSound, IsSoundRun, IsTextOf}
use Rattle.session_json.proofs.ReadBack.{array_back, ascii_then, count_sum-levels, distinct, items_back, number_back, strict_text, subtree_back, AreReadAs, IsReadAs, IsReadBack}

-- ---- hashes

hash_values : (hash : Hash) → IsHash hash → Each (λ word. word < 2 ^ 64) hash
hash_values hash is = each hash (λ i d within. is.1 i d within)
  where
    each : (words : List ℕ) → All (λ word. word < 2 ^ 64) words → Each (λ word. word < 2 ^ 64) words
    each [] h = tt
    each (word ∷ words) h = (h 0 0 (omega arith), each words (λ i d within. h (suc i) d (omega (arith, within))))

words_back : (words : List ℕ) → Each (λ word. word < 2 ^ 64) words → Each (λ word. IsReadBack 0 (number_json word)) words
words_back [] h = tt
words_back (word ∷ words) h = (number_back word h.0, words_back words h.1)

hash_back : (hash : Hash) → IsHash hash → IsReadBack 1 (hash_json hash)
hash_back hash is = array_back 0 _ _ (items_back number_json number_json 0 hash (words_back hash (hash_values hash is)))

hashes_back : (hashes : List Hash) → Each IsHash hashes → Each (λ hash. IsReadBack 1 (hash_json hash)) hashes
hashes_back [] h = tt
hashes_back (hash ∷ hashes) h = (hash_back hash h.0, hashes_back hashes h.1)

reads_hash : (hash : Hash) → length hash ≡ 4 → ReadsHash (hash_json hash) hash
reads_hash [] e = cc e
reads_hash (a ∷ []) e = cc e
reads_hash (a ∷ b ∷ []) e = cc e
reads_hash (a ∷ b ∷ c ∷ []) e = cc e
reads_hash (a ∷ b ∷ c ∷ d ∷ []) e = record {
  a = number_json a;
  b = number_json b;
  c = number_json c;
  d = number_json d;
  words = (a, b, c, d);
  four = refl;
  a_is = refl;
  b_is = refl;
  c_is = refl;
  d_is = refl;
  hash_is = refl;
}
reads_hash (a ∷ b ∷ c ∷ d ∷ x ∷ xs) e = cc e

reads_hashes : (hashes : List Hash) → Each IsHash hashes → AllZip ReadsHash (map hash_json hashes) hashes
reads_hashes [] h = tt
reads_hashes (hash ∷ hashes) h = (reads_hash hash h.0.0, reads_hashes hashes h.1)

-- ---- runs

-- a run and a session as they are read, with their members in order
abbrev run_value : PlacedRun Subtree → Data
run_value run = object (
    member (codes "chunks") (subtree_json run.1.range) (
    member (codes "end") (number_json run.1.end) (
    member (codes "first") (number_json run.0) no_members)))

abbrev session_value : List (PlacedRun Subtree) → List Hash → Data
session_value runs hashes = object (
    member (codes "known_hashes") (array (items_of (map hash_json hashes))) (
    member (codes "runs") (array (items_of (map run_value runs))) no_members))

module _ (run : PlacedRun Subtree) (sound : IsSoundRun run) (fits : levels_size run.1.range.levels < 2 ^ 64) where
  range_back : IsReadBack 3 (subtree_json run.1.range)
  range_back =
      subtree_back run.1.range (omega (arith, sound.few, count_sum-levels run.1.range.levels)) (omega (arith, fits, levels_size-flat run.1.range.levels))

  run_utf8 : IsUtf8 (compact_text (run_json run))
  unfolding escape_byte
  run_utf8 =
      ascii_then (123 ∷ 34 ∷ codes "first" ++ 34 ∷ 58 ∷ []) _ refl (
      IsUtf8-append (compact_text (number_json run.0)) _ (number_back run.0 sound.first_fits).utf8 (
      ascii_then (44 ∷ 34 ∷ codes "end" ++ 34 ∷ 58 ∷ []) _ refl (
      IsUtf8-append (compact_text (number_json run.1.end)) _ (number_back run.1.end sound.end_fits).utf8 (
      ascii_then (44 ∷ 34 ∷ codes "chunks" ++ 34 ∷ 58 ∷ []) _ refl (
      IsUtf8-append (compact_text (subtree_json run.1.range)) (125 ∷ []) range_back.utf8 (
      IsUtf8-are_ascii (125 ∷ []) refl))))))

  run_back : IsReadAs 4 (run_json run) (run_value run)
  run_back =
      let first = number_back run.0 sound.first_fits in
      let end = number_back run.1.end sound.end_fits in
      record {
        utf8 = run_utf8;
        reads = rw first.reads (rw end.reads (rw range_back.reads refl));
        numbers = (first.numbers, (end.numbers, (range_back.numbers, tt)));
        shallow = omega (arith, range_back.shallow);
        unique = (
          distinct (codes "first" ∷ codes "end" ∷ codes "chunks" ∷ []) refl,
          (tt, (tt, (range_back.unique, tt))),
        );
      }

runs_back : (runs : List (PlacedRun Subtree)) → Each IsSoundRun runs → size_of runs < 2 ^ 64 → Each (λ run. IsReadAs 4 (run_json run) (run_value run)) runs
runs_back [] h fits = tt
runs_back (run ∷ runs) h fits =
    let sum = sum_by-cons (λ (r : PlacedRun Subtree). levels_size r.1.range.levels) run runs in
    (run_back run h.0 (omega (arith, sum, fits)), runs_back runs h.1 (omega (arith, sum, fits)))

-- ---- sessions

module _ (runs : List (PlacedRun Subtree)) (hashes : List Hash) (of_runs : AreReadAs 4 (items_of (map run_json runs)) (items_of (map run_value runs)))
    (of_hashes : AreReadAs 1 (items_of (map hash_json hashes)) (items_of (map hash_json hashes))) where
  session_utf8 : IsUtf8 (compact_text (session_json runs hashes))
  unfolding escape_byte
  session_utf8 =
      ascii_then (123 ∷ 34 ∷ codes "runs" ++ 34 ∷ 58 ∷ []) _ refl (
      IsUtf8-append (compact_text (array (items_of (map run_json runs)))) _ (array_back 4 _ _ of_runs).utf8 (
      ascii_then (44 ∷ 34 ∷ codes "known_hashes" ++ 34 ∷ 58 ∷ []) _ refl (
      IsUtf8-append (compact_text (array (items_of (map hash_json hashes)))) (125 ∷ []) (array_back 1 _ _ of_hashes).utf8 (
      IsUtf8-are_ascii (125 ∷ []) refl))))

  session_back : IsReadAs 6 (session_json runs hashes) (session_value runs hashes)
  session_back = record {
    utf8 = session_utf8;
    reads = rw of_runs.reads (rw of_hashes.reads refl);
    numbers = (of_runs.numbers, (of_hashes.numbers, tt));
    shallow = omega (arith, of_runs.shallow, of_hashes.shallow);
    unique = (distinct (codes "runs" ∷ codes "known_hashes" ∷ []) refl, (of_runs.unique, (of_hashes.unique, tt)));
  }

-- ---- the runs follow one another

-- the last of several runs is that of all but the first
one_more : (run next : PlacedRun Subtree) (runs : List (PlacedRun Subtree)) (position : ℕ) → EndBefore (next ∷ runs) position → EndBefore (run ∷ next ∷ runs) position
one_more run next runs position h =
    let P = λ (last : PlacedRun Subtree). (last.0 < position) × (last.1.end < position) in
    let fewer : suc (length runs) - 1 ≡ length runs = omega arith in
    let all : suc (suc (length runs)) - 1 ≡ suc (length runs) = omega arith in
    subst (λ n. IfSome (slice_get (run ∷ next ∷ runs) n) P) (sym all) (subst (λ n. IfSome (slice_get (next ∷ runs) n) P) fewer h)

-- the last of the first runs begins and ends before the next one
end_before : (runs : List (PlacedRun Subtree)) (i : ℕ) (d : PlacedRun Subtree) → i < length runs → AreApart runs → EndBefore (take i runs) (get_or runs i d).0
end_before [] i d within apart = absurd (omega (arith, within))
end_before (run ∷ runs) zero d within apart = tt
end_before (run ∷ runs) (suc zero) d within apart =
    let after : run.1.end < (get_or runs 0 d).0 = All-get_or (λ next. run.1.end < next.0) runs 0 d (omega (arith, within)) apart.1 in
    (omega (arith, apart.0, after), after)
end_before (run ∷ []) (suc (suc i)) d within apart = absurd (omega (arith, within))
end_before (run ∷ next ∷ runs) (suc (suc i)) d within apart =
    one_more run next (take i runs) (get_or runs i d).0 (end_before (next ∷ runs) (suc i) d (omega (arith, within)) apart.2)

each_follows : (all runs : List (PlacedRun Subtree)) (i : ℕ) (d : PlacedRun Subtree) → i < length runs → Each IsSoundRun runs → AreApart runs
    → EndBefore all (get_or runs i d).0 → CanFollow {A = Global} subtrees all (get_or runs i d)
each_follows all [] i d within sound apart end = absurd (omega (arith, within))
each_follows all (run ∷ runs) zero d within sound apart end = (apart.0, sound.0.no_start, sound.0.no_end, end)
each_follows all (run ∷ runs) (suc i) d within sound apart end = each_follows all runs i d (omega (arith, within)) sound.1 apart.2 end

follow : (runs : List (PlacedRun Subtree)) → Each IsSoundRun runs → AreApart runs → CanFollowEach runs
follow runs sound apart i d within = each_follows (take i runs) runs i d within sound apart (end_before runs i d within apart)

-- ---- what is read

module _ (digits : (words : List ℕ) → IsHash words → IsHexText (hex_text words))
    (lowercase : (words : List ℕ) → IsHash words → str_to_ascii_lowercase (hex_text words) ≡ hex_text words)
    (apart : (a b : List ℕ) → IsHash a → IsHash b → hex_text a ≡ hex_text b → a ≡ b) where
  reads_run : (run : PlacedRun Subtree) → IsSoundRun run → levels_size run.1.range.levels < 2 ^ 64 → ReadsRun (run_value run) run
  reads_run run sound fits = record {
    chunks = subtree_json run.1.range;
    members = record { first_is = refl; end_is = refl; chunks_are = refl };
    reads = Reads-object apart digits lowercase run.1.range sound.hashes sound.well_formed fits;
  }

  reads_runs : (runs : List (PlacedRun Subtree)) → Each IsSoundRun runs → size_of runs < 2 ^ 64 → AllZip ReadsRun (map run_value runs) runs
  reads_runs [] sound fits = tt
  reads_runs (run ∷ runs) sound fits =
      let sum = sum_by-cons (λ (r : PlacedRun Subtree). levels_size r.1.range.levels) run runs in
      (reads_run run sound.0 (omega (arith, sum, fits)), reads_runs runs sound.1 (omega (arith, sum, fits)))

  pub reads_the_same : (session : Parts Subtree (SeenHashes Global)) (text : List ℕ) → IsSound session → IsTextOf session true text → SaysSession text true session
  reads_the_same session text sound is =
      let known = is.all refl in
      let hashes = sound.hashes is.hashes known.known in
      let fits : size_of session.runs < 2 ^ 64 = subst (λ n. n < 2 ^ 64) sound.size sound.fits in
      let of_runs = items_back run_json run_value 4 session.runs (runs_back session.runs sound.runs fits) in
      let of_hashes = items_back hash_json hash_json 1 is.hashes (hashes_back is.hashes hashes) in
      let json = session_value session.runs is.hashes in
      record {
        json = json;
        is_json = subst (λ (t : List ℕ). IsStrictText t json) (sym is.text_is) (strict_text 6 (session_json session.runs is.hashes) json (omega arith) (session_back session.runs is.hashes of_runs of_hashes));
        hashes = is.hashes;
        reads = record {
          lists = record {
            run_values = map run_value session.runs;
            hash_values = map hash_json is.hashes;
            lists = record { runs_are = refl; hashes_are = refl };
            runs_are = reads_runs session.runs sound.runs fits;
            known_are = reads_hashes is.hashes hashes;
          };
          follow = follow session.runs sound.runs sound.apart;
          fits = fits;
        };
        size = sound.size;
        known = known.known;
      }
