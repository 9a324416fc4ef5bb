-- What a checker looks up while it goes through the cases: the first requester that each mode lets through, of those that a cover must conflict with.
use Rattle.std.specs.Prelude.{◌≡◌, ℕ, ◌≤◌, List, Option, None, slice_index_or}
use Rattle.kr_model.specs.declared.Cover.{Cover}
use Rattle.kr_model.specs.declared.Cover.TheVariants.{ReadKey, ReadGap, InsertedKey, DeletedGap, UpdatedKey}
use Rattle.kr_model.specs.declared.Requester.{Requester}
use Rattle.kr_model.specs.Protocol.{Protocol}
use Rattle.kr_cases.specs.declared.holes.Holes.{Holes}
use Rattle.kr_model.specs.Covers.{open_requesters}
use Rattle.kr_model.specs.Firsts.{first}

-- The first requester that a lock in mode h lets through, of those that the cover must conflict with.
abbrev pub first_open : Protocol → Cover → ℕ → Option Requester
first_open p c h = first (open_requesters p c h)

-- A line has that requester for 0, which is no lock, and for each mode of p.
abbrev pub AreFirst : Protocol → Cover → List (Option Requester) → Type 0
AreFirst p c holes = (h : ℕ) → h ≤ p.count → slice_index_or holes h None ≡ first_open p c h

-- The lines have that requester for each cover.
pub record AreHoles (p : Protocol) (holes : Holes) : Type 0 where
  pub read_key : AreFirst p ReadKey holes.read_key
  pub read_gap : AreFirst p ReadGap holes.read_gap
  pub inserted_key : AreFirst p InsertedKey holes.inserted_key
  pub deleted_gap : AreFirst p DeletedGap holes.deleted_gap
  pub updated_key : AreFirst p UpdatedKey holes.updated_key
