-- The candidates that many machines find are those of the message.
use Rattle.std.proofs.Common.{◌≡◌, ℕ, zero, suc, ◌+◌, ◌-◌, ◌<◌, ◌≤◌, List, [], ◌∷◌, ◌++◌, length, map, take, refl, sym, ap, subst, ◌∙◌, arith, inl, inr, length-append, length-drop, length-take-le}
use Rattle.std.proofs.lemmas.Bool.{cases_Bool, cases_lt}
use Rattle.std.proofs.lemmas.List.{append_assoc, take-append-drop}
use Rattle.xet_chunker.specs.Cuts.{cuts}
use Rattle.xet_chunker.specs.Candidates.{is_candidate, candidates}
use Rattle.xet_chunker.specs.Chosen.{AreChosen}
use Rattle.xet_chunker.specs.Pieces.{found_in, joined, near}
use Rattle.xet_chunker.proofs.Cuts.Finding.{too_early}
use Rattle.xet_chunker.proofs.Cuts.Parts.{all_chosen, in_parts, local}

-- a place of a part and of the whole
same_place : (x part after : List ℕ) (from : ℕ) → (from < 63 → length x ≡ 0) → from < length part →
    is_candidate (x ++ (part ++ after)) (suc (length x + from)) ≡ is_candidate part (suc from)
same_place x part after from first fits =
    elim (cases_lt from 63) [
      | inl early ↦ let none : length x ≡ 0 = first early in
          too_early (x ++ (part ++ after)) (suc (length x + from)) (omega arith) ∙ sym (too_early part (suc from) (omega arith))
      | inr late ↦ let e : suc (length x + from) ≡ length x + suc from = omega arith in
          ap (is_candidate (x ++ (part ++ after))) e ∙ local x part after (suc from) (omega arith) (omega arith)
    ]

local_list : (x part after : List ℕ) (from n : ℕ) → (from < 63 → length x ≡ 0) → from + n ≤ length part →
    candidates (x ++ (part ++ after)) (length x + from) n ≡ map (λ (k : ℕ). length x + k) (candidates part from n)
unfolding candidates
local_list x part after from zero first fits = refl
local_list x part after from (suc n) first fits =
    let m : List ℕ = x ++ (part ++ after) in
    let e : suc (length x + from) ≡ length x + suc from = omega arith in
    let rest : candidates m (suc (length x + from)) n ≡ map (λ (k : ℕ). length x + k) (candidates part (suc from) n) =
    ap (λ (p : ℕ). candidates m p n) e ∙ local_list x part after (suc from) n (λ early. first (omega arith)) (omega arith) in
    elim (cases_Bool (is_candidate part (suc from))) [
      | inl t ↦ rw (same_place x part after from first (omega arith), t, rest) (ap (λ (p : ℕ). p ∷ map (λ (k : ℕ). length x + k) (candidates part (suc from) n)) e)
      | inr f ↦ rw (same_place x part after from first (omega arith), f, rest) refl
    ]

found_is : (before : List ℕ) (pieces : List (List ℕ)) → found_in before pieces ≡ candidates (before ++ joined pieces) (length before) (length (joined pieces))
unfolding found_in joined candidates
found_is before [] = refl
found_is before (piece ∷ pieces) =
    let j : ℕ = length before - 63 in
    let x : List ℕ = take j before in
    let y : List ℕ = near before in
    let rest : List ℕ = joined pieces in
    let m : List ℕ = before ++ (piece ++ rest) in
    let nx : length x ≡ j = length-take-le j before (omega arith) in
    let ny : length y ≡ length before - j = length-drop j before in
    let np : length (y ++ piece) ≡ length y + length piece = length-append y piece in
    let at : length x + length y ≡ length before = omega arith in
    let split : x ++ ((y ++ piece) ++ rest) ≡ m =
    ap (λ (l : List ℕ). x ++ l) (append_assoc y piece rest) ∙ sym (append_assoc x y (piece ++ rest)) ∙ ap (λ (l : List ℕ). l ++ (piece ++ rest)) (take-append-drop j before) in
    let here : candidates m (length before) (length piece) ≡ map (λ (k : ℕ). j + k) (candidates (y ++ piece) (length y) (length piece)) =
    ap (λ (l : List ℕ). candidates l (length before) (length piece)) (sym split)
    ∙ ap (λ (p : ℕ). candidates (x ++ ((y ++ piece) ++ rest)) p (length piece)) (sym at)
    ∙ local_list x (y ++ piece) rest (length y) (length piece) (λ early. omega arith) (omega arith)
    ∙ ap (λ (i : ℕ). map (λ (k : ℕ). i + k) (candidates (y ++ piece) (length y) (length piece))) nx in
    let later : found_in (before ++ piece) pieces ≡ candidates m (length before + length piece) (length rest) =
    found_is (before ++ piece) pieces
    ∙ ap (λ (l : List ℕ). candidates l (length (before ++ piece)) (length rest)) (append_assoc before piece rest)
    ∙ ap (λ (p : ℕ). candidates m p (length rest)) (length-append before piece) in
    ap (λ (l : List ℕ). l ++ found_in (before ++ piece) pieces) (sym here)
    ∙ ap (λ (l : List ℕ). candidates m (length before) (length piece) ++ l) later
    ∙ sym (in_parts m (length before) (length piece) (length rest))
    ∙ ap (candidates m (length before)) (sym (length-append piece rest))

pub pieces_chosen : (pieces : List (List ℕ)) → AreChosen (found_in [] pieces) (length (joined pieces)) 0 (cuts (joined pieces))
pieces_chosen pieces =
    subst (λ (l : List ℕ). AreChosen l (length (joined pieces)) 0 (cuts (joined pieces))) (sym (found_is [] pieces)) (all_chosen (joined pieces))
