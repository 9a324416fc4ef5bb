-- A document with purges that is read token by token, and what it reads as.
use Rattle.std.proofs.Common.{◌≡◌, ℕ, ◌+◌, ◌≤◌, List, [], ◌∷◌, map, length, Some, None, Ok, refl}
use Rattle.serde_json.specs.View.{items_of}
use Rattle.serde_json.proofs.OnLiterals.{serde_json_on_literals}
use Rattle.kr_model.specs.Map.{Map}
use Rattle.kr_ghost.specs.declared.moves.Move.{Move}
use Rattle.kr_script.specs.Pairs.{pair_data}
use Rattle.kr_script.specs.Faults.{opening_faults}
use Rattle.kr_script.specs.Moves.{move_of}
use Rattle.kr_script.specs.GhostReading.{format_faults, move_faults, moves_of, reading_of}
use Rattle.kr_script.specs.Tokens.{step_of_move}
use Rattle.kr_script.proofs.Documents.{ReadBack, document_with, few_items, first_back, pairs_back}

-- Moves --

module _ (n : ℕ) where
  no_move_fault : (i : ℕ) (ms : List Move) → ReadBack step_of_move (move_of n) ms → move_faults n i (items_of (map step_of_move ms)) ≡ []
  no_move_fault i [] h = refl
  no_move_fault i (m ∷ ms) h = let parts = first_back step_of_move (move_of n) m ms h in rw (parts.0, no_move_fault (i + 1) ms parts.1) refl

  moves_back : (ms : List Move) → ReadBack step_of_move (move_of n) ms → moves_of n (items_of (map step_of_move ms)) ≡ ms
  moves_back [] h = refl
  moves_back (m ∷ ms) h = let parts = first_back step_of_move (move_of n) m ms h in rw (parts.0, moves_back ms parts.1) refl

-- The document --

-- the document of a script has no fault, and is that script
pub document_reads : (n : ℕ) (ps : Map) (ms : List Move) → format_faults (Some n) ≡ [] → opening_faults 0 None (items_of (map pair_data ps)) ≡ [] → ReadBack step_of_move (move_of n) ms
    → length ps ≤ 100000 → length ms ≤ 100000 → reading_of (Some (document_with n ps (map step_of_move ms))) ≡ Ok (record { opening = ps; moves = ms })
unfolding serde_json_on_literals
document_reads n ps ms known rising back few_pairs few_moves =
    rw (known, few_items pair_data ps few_pairs, few_items step_of_move ms few_moves, rising, no_move_fault n 0 ms back, pairs_back ps, moves_back n ms back) refl
