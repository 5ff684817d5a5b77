-- Chunks in the order of their last uses, and the entries of a map with numbers as keys.
use Rattle.std.proofs.Common.{arith, nat_cmp, is_eq, ◌≡◌, ◌<◌, ℕ, Bool, false, List, [], ◌∷◌, ◌++◌, refl, sym, ap, subst, ◌∙◌}
use Rattle.std.specs.Prelude.{All, Contains, Some, cond, map}
use Rattle.std.specs.declared.cmp.Ordering.{Ordering}
use Rattle.std.specs.declared.cmp.Ordering.TheVariants.{Less, Equal, Greater}
use Rattle.std.specs.BTreeMap.{insert_entry, is_at}
use Rattle.std.specs.Map.{lookup, remove_entry, values_of}
use Rattle.std.specs.Option.{IfSome}
use Rattle.std.specs.Ordering.{match_ordering}
use Rattle.std.proofs.lemmas.List.Elements.{All-nil, All-cons, All-head, All-tail, All-map, All-weaker, All-contains, All-contains_itself}
use Rattle.std.proofs.lemmas.Map.Views.{IfSome-lookup_from_All}
use Rattle.std.proofs.lemmas.Option.{same_Some}
use Rattle.verified_reader.specs.Kept.{Chunk}
use Rattle.verified_reader.specs.declared.kept_chunks.KeptChunk.{KeptChunk}
use Rattle.verified_reader.specs.Steps.KeptChunks.{IsAt, chunk_of, chunks_of}

below : (k n : ℕ) → n < k → nat_cmp k n ≡ Greater
below k n h = grind (arith, h)

at : (k : ℕ) → nat_cmp k k ≡ Equal
at k = grind arith

-- ---- Entries

module _ {X : Type 0} where
  abbrev pub AllBelow : ℕ → List (ℕ × X) → Type 0
  AllBelow k entries = All (λ (e : ℕ × X). e.0 < k) entries

  -- an entry after all others is put at the end
  pub insert-last : (k : ℕ) (entries : List (ℕ × X)) (w : X) → AllBelow k entries → insert_entry nat_cmp entries k w ≡ entries ++ (k, w) ∷ []
  insert-last k [] w low = refl
  insert-last k (e ∷ entries) w low =
      ap (λ o. match_ordering o ((k, w) ∷ e ∷ entries) ((e.0, w) ∷ entries) (e ∷ insert_entry nat_cmp entries k w))
      (below k e.0 (All-head (λ (e : ℕ × X). e.0 < k) e entries low))
      ∙ ap (λ l. e ∷ l) (insert-last k entries w (All-tail (λ (e : ℕ × X). e.0 < k) e entries low))

  -- the last entry takes another value
  pub replace-last : (k : ℕ) (entries : List (ℕ × X)) (x w : X) → AllBelow k entries →
      insert_entry nat_cmp (entries ++ (k, x) ∷ []) k w ≡ entries ++ (k, w) ∷ []
  replace-last k [] x w low = ap (λ o. match_ordering o ((k, w) ∷ (k, x) ∷ []) ((k, w) ∷ []) ((k, x) ∷ (k, w) ∷ [])) (at k)
  replace-last k (e ∷ entries) x w low =
      ap (λ o. match_ordering o ((k, w) ∷ e ∷ entries ++ (k, x) ∷ []) ((e.0, w) ∷ entries ++ (k, x) ∷ []) (e ∷ insert_entry nat_cmp (entries ++ (k, x) ∷ []) k w))
      (below k e.0 (All-head (λ (e : ℕ × X). e.0 < k) e entries low))
      ∙ ap (λ l. e ∷ l) (replace-last k entries x w (All-tail (λ (e : ℕ × X). e.0 < k) e entries low))

  -- an entry stands between others, and only these are left without it
  pub record Stands (number : ℕ) (entries : List (ℕ × X)) (x : X) : Type 0 where
    pub front : List (ℕ × X)
    pub back : List (ℕ × X)
    pub is : entries ≡ front ++ (number, x) ∷ back
    pub others : (k : ℕ) → AllBelow k entries → AllBelow k (front ++ back)
    pub without : (more : List (ℕ × X)) → remove_entry (is_at (nat_cmp number)) (entries ++ more) ≡ front ++ (back ++ more)

  pub stands : (number : ℕ) (entries : List (ℕ × X)) (x : X) → IsAt number entries x → Stands number entries x
  stands number [] x found = absurd (cc found)
  stands number (e ∷ entries) x found = choose (λ later. stands number entries x later) (nat_cmp number e.0) refl
    where
      test : ℕ → Bool
      test = is_at (nat_cmp number)

      past : (IsAt number entries x → Stands number entries x) → (o : Ordering) → nat_cmp number e.0 ≡ o → is_eq o ≡ false → Stands number (e ∷ entries) x
      past others o is apart =
          let rest = others (sym (ap (λ b. cond b (Some e.1) (lookup test entries)) (ap is_eq is ∙ apart)) ∙ found) in
          record {
            front = e ∷ rest.front;
            back = rest.back;
            is = ap (λ l. e ∷ l) rest.is;
            others = λ k all.
                All-cons (λ (e : ℕ × X). e.0 < k) e (rest.front ++ rest.back) (All-head (λ (e : ℕ × X). e.0 < k) e entries all)
                (rest.others k (All-tail (λ (e : ℕ × X). e.0 < k) e entries all));
            without = λ more.
                ap (λ b. cond b (entries ++ more) (e ∷ remove_entry test (entries ++ more))) (ap is_eq is ∙ apart)
                ∙ ap (λ l. e ∷ l) (rest.without more);
          }

      choose : (IsAt number entries x → Stands number entries x) → (o : Ordering) → nat_cmp number e.0 ≡ o → Stands number (e ∷ entries) x
      choose others Less is = past others Less is refl
      choose others Greater is = past others Greater is refl
      choose others Equal is =
          let value : e.1 ≡ x = same_Some e.1 x (sym (ap (λ o. cond (is_eq o) (Some e.1) (lookup test entries)) is) ∙ found) in
          let key : e.0 ≡ number = grind (arith, is) in
          record {
            front = [];
            back = entries;
            others = λ k all. All-tail (λ (e : ℕ × X). e.0 < k) e entries all;
            is = ap (λ (k : ℕ). (k, e.1) ∷ entries) key ∙ ap (λ (v : X). (number, v) ∷ entries) value;
            without = λ more. ap (λ o. cond (is_eq o) (entries ++ more) (e ∷ remove_entry test (entries ++ more))) is;
          }

-- ---- Chunks

-- what holds of each element that was mapped
pub of_map : {X Y : Type 0} (P : Y → Type 0) (f : X → Y) (xs : List X) → All P (map f xs) → All (λ x. P (f x)) xs
of_map P f [] all = All-nil (λ x. P (f x))
of_map P f (x ∷ xs) all = All-cons (λ x. P (f x)) x xs (All-head P (f x) (map f xs) all) (of_map P f xs (All-tail P (f x) (map f xs) all))

module _ {A : Type 0} where
  -- what is found is kept
  pub is_kept : (number : ℕ) (entries : List (ℕ × KeptChunk A)) (chunk : KeptChunk A) → IsAt number entries chunk → Contains (chunks_of entries) (chunk_of chunk)
  is_kept number entries chunk found =
      let P : KeptChunk A → Type 0 = λ kept. Contains (chunks_of entries) (chunk_of kept) in
      let all = of_map (Contains (chunks_of entries)) chunk_of (values_of entries) (All-contains_itself (chunks_of entries)) in
      subst (λ r. IfSome r P) found (IfSome-lookup_from_All P (is_at (nat_cmp number)) entries all)

  -- a chunk that is kept is found at a number
  pub record IsFound (entries : List (ℕ × KeptChunk A)) (chunk : Chunk) : Type 0 where
    pub number : ℕ
    pub kept : KeptChunk A
    pub at : IsAt number entries kept
    pub same : chunk_of kept ≡ chunk

  pub is_found : (entries : List (ℕ × KeptChunk A)) (chunk : Chunk) → All (λ (e : ℕ × KeptChunk A). IsAt e.0 entries e.1) entries →
      Contains (chunks_of entries) chunk → IsFound entries chunk
  is_found entries chunk listed kept =
      let P : Chunk → Type 0 = IsFound entries in
      let each = All-weaker (λ (e : ℕ × KeptChunk A). IsAt e.0 entries e.1) (λ (e : ℕ × KeptChunk A). P (chunk_of e.1))
      (λ e found. record { number = e.0; kept = e.1; at = found; same = refl }) entries listed in
      All-contains P (chunks_of entries) chunk
      (All-map P chunk_of (values_of entries) (All-map (λ (kept : KeptChunk A). P (chunk_of kept)) (λ (e : ℕ × KeptChunk A). e.1) entries each)) kept
