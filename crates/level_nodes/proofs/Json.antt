-- JSON values: arrays, members, values read in order, and the one node of a value.
use Rattle.std.proofs.Common.{◌≡◌, ℕ, zero, suc, ◌+◌, ◌<◌, List, [], ◌∷◌, ◌++◌, length, get_or, take, map, Option, Some, None, option_and_then, is_some, true, false, refl, sym, ap, subst, ◌∙◌, arith}
use Rattle.std.specs.List.{AllZip, AllByRecursion}
use Rattle.std.specs.Str.{str_to_ascii_lowercase}
use Rattle.std.proofs.lemmas.List.{map-append, take_more}
use Rattle.serde_json.specs.Data.{Data, null, boolean, number, string, array, object, Items}
use Rattle.serde_json.specs.Find.{get, as_array, as_object}
use Rattle.serde_json.specs.View.{view, items_of}
use Rattle.serde_json.specs.declared.value.Value.{Value}
use Rattle.xet_hash.specs.Hash.{IsHash, IsHexText, hex_text}
use Rattle.xet_roots.specs.Groups.{Node}
use Rattle.level_nodes.specs.NodeJson.{node_json, ReadsNode}

-- ---- arrays and members

pub array-of : (member : Option Data) (items : Items) → option_and_then as_array member ≡ Some items → member ≡ Some (array items)
array-of None items e = cc
array-of (Some null) items e = cc
array-of (Some (boolean b)) items e = cc
array-of (Some (number n)) items e = cc
array-of (Some (string s)) items e = cc
array-of (Some (array others)) items e = cc
array-of (Some (object entries)) items e = cc

pub items_of-injective : (xs ys : List Data) → items_of xs ≡ items_of ys → xs ≡ ys
items_of-injective [] [] e = refl
items_of-injective [] (y ∷ ys) e = cc
items_of-injective (x ∷ xs) [] e = cc
items_of-injective (x ∷ xs) (y ∷ ys) e =
    let tails : items_of xs ≡ items_of ys = cc in
    cc (items_of-injective xs ys tails)

-- whether there is a value
pub none_of : {X : Type 0} (x : Option X) → is_some x ≡ false → x ≡ None
none_of None e = refl
none_of (Some x) e = cc

pub some_of : {X : Type 0} (x : Option X) → is_some x ≡ true → (y : X) × (x ≡ Some y)
some_of None e = cc
some_of (Some x) e = (x, refl)

pub no_member : (json : Data) (name : List ℕ) (member : Data) → as_object json ≡ None → get name json ≡ Some member → ⊥
no_member null name member e found = let clash : ⊥ = cc in clash
no_member (boolean b) name member e found = let clash : ⊥ = cc in clash
no_member (number n) name member e found = let clash : ⊥ = cc in clash
no_member (string s) name member e found = let clash : ⊥ = cc in clash
no_member (array items) name member e found = let clash : ⊥ = cc in clash
no_member (object entries) name member e found = let clash : ⊥ = cc in clash

-- ---- values read in order

module _ {X : Type 0} (Reads : Data → X → Type 0) where
  zip_more : (front : List Data) (value : Data) (done : List X) (x : X) → AllZip Reads front done → Reads value x →
      AllZip Reads (front ++ value ∷ []) (done ++ x ∷ [])
  zip_more [] value [] x all here = (here, tt)
  zip_more [] value (y ∷ done) x all here = elim all [ ]
  zip_more (first ∷ front) value [] x all here = elim all [ ]
  zip_more (first ∷ front) value (y ∷ done) x all here = (all.0, zip_more front value done x all.1 here)

  -- one more value is read
  pub read_next : (values : List Value) (i : ℕ) (value : Value) (done after : List X) (x : X) → i < length values → value ≡ get_or values i value →
      AllZip Reads (map view (take i values)) done → Reads (view value) x → after ≡ done ++ x ∷ [] → AllZip Reads (map view (take (i + 1) values)) after
  read_next values i value done after x within e all here pushed =
      let front : map view (take (i + 1) values) ≡ map view (take i values) ++ view value ∷ [] =
      ap (map view) (take_more values i value within) ∙ map-append view (take i values) (get_or values i value ∷ [])
      ∙ ap (λ (other : Value). map view (take i values) ++ view other ∷ []) (sym e) in
      let more = zip_more (map view (take i values)) (view value) done x all here in
      subst (λ (read : List Data). AllZip Reads read after) (sym front) (subst (AllZip Reads (map view (take i values) ++ view value ∷ [])) (sym pushed) more)

  -- where all are read, each one is
  pub read_each : (values : List Value) (i : ℕ) (value : Value) (done : List X) → i < length values → value ≡ get_or values i value →
      AllZip Reads (map view values) done → (x : X) × Reads (view value) x
  read_each [] i value done within e all = absurd (omega arith)
  read_each (first ∷ values) i value [] within e all = elim all [ ]
  read_each (first ∷ values) zero value (x ∷ done) within e all = (x, subst (λ (other : Value). Reads (view other) x) (sym e) all.0)
  read_each (first ∷ values) (suc i) value (x ∷ done) within e all = read_each values i value done (omega arith) e all.1

-- ---- one list, and one node, for a value

pub one_list : {X : Type 0} (Reads : Data → X → Type 0) → ((value : Data) (x y : X) → Reads value x → Reads value y → x ≡ y) →
    (values : List Data) (xs ys : List X) → AllZip Reads values xs → AllZip Reads values ys → xs ≡ ys
one_list Reads one [] [] [] h k = refl
one_list Reads one [] [] (y ∷ ys) h k = elim k [ ]
one_list Reads one [] (x ∷ xs) ys h k = elim h [ ]
one_list Reads one (value ∷ values) [] ys h k = elim h [ ]
one_list Reads one (value ∷ values) (x ∷ xs) [] h k = elim k [ ]
one_list Reads one (value ∷ values) (x ∷ xs) (y ∷ ys) h k =
    let head = one value x y h.0 k.0 in
    let tail = one_list Reads one values xs ys h.1 k.1 in
    λ i. head i ∷ tail i

pub one_node : ((a b : List ℕ) → IsHash a → IsHash b → hex_text a ≡ hex_text b → a ≡ b) →
    (value : Data) (a b : Node) → ReadsNode value a → ReadsNode value b → a ≡ b
one_node apart value a b h k =
    let text : h.text ≡ k.text = cc (sym h.text_is ∙ k.text_is) in
    let words = apart a.0 b.0 h.is_hash k.is_hash (h.reads ∙ ap str_to_ascii_lowercase text ∙ sym k.reads) in
    let size : a.1 ≡ b.1 = cc (sym h.size_is ∙ k.size_is) in
    λ i. (words i, size i)

-- ---- the values of nodes that have hashes

module _ (digits : (words : List ℕ) → IsHash words → IsHexText (hex_text words))
    (lowercase : (words : List ℕ) → IsHash words → str_to_ascii_lowercase (hex_text words) ≡ hex_text words) where
  pub reads_nodes : (nodes : List Node) → AllByRecursion (λ node. IsHash node.0) nodes → AllZip ReadsNode (map node_json nodes) nodes
  reads_nodes [] h = tt
  reads_nodes (node ∷ nodes) h = (
    record {
      text = hex_text node.0;
      text_is = refl;
      are_digits = digits node.0 h.0;
      reads = sym (lowercase node.0 h.0);
      is_hash = h.0;
      size_is = refl;
    },
    reads_nodes nodes h.1,
  )
