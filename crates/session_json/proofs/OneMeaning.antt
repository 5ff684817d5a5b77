-- A value says one session, and a session has one text.
use Rattle.std.proofs.Common.{◌≡◌, ℕ, Bool, true, false, List, [], ◌∷◌, Option, Some, refl, sym, ap, subst, ◌∙◌}
use Rattle.std.specs.Prelude.{◌↔◌, codes, if◌then◌else◌}
use Rattle.std.specs.List.{AllZip}
use Rattle.std.specs.declared.alloc.Global.{Global}
use Rattle.serde_json.specs.Data.{Data, array}
use Rattle.serde_json.specs.Find.{get}
use Rattle.serde_json.specs.View.{items_of}
use Rattle.serde_json.specs.Written.{compact_text}
use Rattle.level_nodes.specs.NodeJson.{whole}
use Rattle.level_nodes.proofs.Json.{items_of-injective, one_list}
use Rattle.subtree_levels.specs.Subtree.{Subtree}
use Rattle.xet_merkle.specs.JsonRules as subtree
use Rattle.upload_session.specs.Hashes.{Hash, Knows}
use Rattle.upload_session.specs.Session.{Parts, PlacedRun}
use Rattle.upload_session.specs.declared.kept_hashes.SeenHashes.{SeenHashes}
use Rattle.session_json.specs.Reading.{size_of, Reads, ReadsHash, ReadsRun, SaysSession}
use Rattle.session_json.specs.SessionJson.{session_json, IsSameSession, IsTextOf}
use Rattle.session_json.proofs.Rising.{one_rising}

-- ---- one session for a value

abbrev OneSubtree : Type 0
OneSubtree = (json : Data) (a b : Subtree) → subtree.Reads json a → subtree.Reads json b → a ≡ b

one_run : OneSubtree → (value : Data) (a b : PlacedRun Subtree) → ReadsRun value a → ReadsRun value b → a ≡ b
one_run one value a b h k =
    let chunks : h.chunks ≡ k.chunks = cc (sym h.members.chunks_are ∙ k.members.chunks_are) in
    let first : a.0 ≡ b.0 = cc (sym h.members.first_is ∙ k.members.first_is) in
    let end : a.1.end ≡ b.1.end = cc (sym h.members.end_is ∙ k.members.end_is) in
    let range = one k.chunks a.1.range b.1.range (subst (λ (json : Data). subtree.Reads json a.1.range) chunks h.reads) k.reads in
    λ i. (first i, record { end = end i; range = range i })

one_hash : (value : Data) (a b : Hash) → ReadsHash value a → ReadsHash value b → a ≡ b
one_hash value a b h k =
    let same : items_of (h.a ∷ h.b ∷ h.c ∷ h.d ∷ []) ≡ items_of (k.a ∷ k.b ∷ k.c ∷ k.d ∷ []) = cc (sym h.four ∙ k.four) in
    let values = items_of-injective (h.a ∷ h.b ∷ h.c ∷ h.d ∷ []) (k.a ∷ k.b ∷ k.c ∷ k.d ∷ []) same in
    let first : h.a ≡ k.a = cc values in
    let second : h.b ≡ k.b = cc values in
    let third : h.c ≡ k.c = cc values in
    let fourth : h.d ≡ k.d = cc values in
    let w0 : h.words.0 ≡ k.words.0 = cc (sym h.a_is ∙ ap whole first ∙ k.a_is) in
    let w1 : h.words.1 ≡ k.words.1 = cc (sym h.b_is ∙ ap whole second ∙ k.b_is) in
    let w2 : h.words.2 ≡ k.words.2 = cc (sym h.c_is ∙ ap whole third ∙ k.c_is) in
    let w3 : h.words.3 ≡ k.words.3 = cc (sym h.d_is ∙ ap whole fourth ∙ k.d_is) in
    h.hash_is ∙ (λ i. w0 i ∷ w1 i ∷ w2 i ∷ w3 i ∷ []) ∙ sym k.hash_is

one_array : (found : Option Data) (xs ys : List Data) → found ≡ Some (array (items_of xs)) → found ≡ Some (array (items_of ys)) → xs ≡ ys
one_array found xs ys h k =
    let same : items_of xs ≡ items_of ys = cc (sym h ∙ k) in
    items_of-injective xs ys same

pub one_session : OneSubtree → (json : Data) (runs others : List (PlacedRun Subtree)) (known more : List Hash)
    → Reads json runs known → Reads json others more → (runs ≡ others) × (known ≡ more)
one_session one json runs others known more h k =
    let a = h.lists in
    let b = k.lists in
    let run_values = one_array (get (codes "runs") json) a.run_values b.run_values a.lists.runs_are b.lists.runs_are in
    let hash_values = one_array (get (codes "known_hashes") json) a.hash_values b.hash_values a.lists.hashes_are b.lists.hashes_are in (
      one_list ReadsRun (one_run one) b.run_values runs others (subst (λ (values : List Data). AllZip ReadsRun values runs) run_values a.runs_are) b.runs_are,
      one_list ReadsHash one_hash b.hash_values known more (subst (λ (values : List Data). AllZip ReadsHash values known) hash_values a.known_are) b.known_are,
    )

-- ---- one session for a text

knows_same : (a b : SeenHashes Global) (hashes : List Hash) → Knows a hashes → Knows b hashes → (known : List Hash) → Knows a known ↔ Knows b known
knows_same a b hashes h k known = (
  λ knows hash. k hash ∙ sym (h hash) ∙ knows hash,
  λ knows hash. h hash ∙ sym (k hash) ∙ knows hash,
)

pub one_text : OneSubtree → (text : List ℕ) (keep_hashes : Bool) (a b : Parts Subtree (SeenHashes Global))
    → SaysSession text keep_hashes a → SaysSession text keep_hashes b → IsSameSession a b
one_text one text keep_hashes a b h k =
    let json : h.json ≡ k.json = cc (sym h.is_json.value_is ∙ k.is_json.value_is) in
    let both = one_session one k.json a.runs b.runs h.hashes k.hashes (subst (λ (value : Data). Reads value a.runs h.hashes) json h.reads) k.reads in
    let kept : List Hash = if keep_hashes then k.hashes else [] in
    record {
      runs = both.0;
      size = h.size ∙ ap size_of both.0 ∙ sym k.size;
      known = knows_same a.kept b.kept kept (subst (λ (hashes : List Hash). Knows a.kept (if keep_hashes then hashes else [])) both.1 h.known) k.known;
    }

-- ---- one text for a session

same_hashes : (with_hashes : Bool) (a b : Parts Subtree (SeenHashes Global)) (first second : List ℕ) → IsSameSession a b
    → (h : IsTextOf a with_hashes first) → (k : IsTextOf b with_hashes second) → h.hashes ≡ k.hashes
same_hashes true a b first second same h k =
    let mine = h.all refl in
    let other = k.all refl in
    let knows = (same.known h.hashes).0 mine.known in
    one_rising h.hashes k.hashes mine.rising other.rising (λ hash. sym (knows hash) ∙ other.known hash)
same_hashes false a b first second same h k = h.none refl ∙ sym (k.none refl)

pub same_text_for_same : (a b : Parts Subtree (SeenHashes Global)) (with_hashes : Bool) (first second : List ℕ) → IsSameSession a b
    → IsTextOf a with_hashes first → IsTextOf b with_hashes second → first ≡ second
same_text_for_same a b with_hashes first second same h k =
    let hashes = same_hashes with_hashes a b first second same h k in
    h.text_is ∙ ap (λ (runs : List (PlacedRun Subtree)). compact_text (session_json runs h.hashes)) same.runs
    ∙ ap (λ (list : List Hash). compact_text (session_json b.runs list)) hashes ∙ sym k.text_is
