-- What evaluation means, in plain words: a relation without a count of steps, and the laws of every admitted diagram.
use Rattle.std.specs.Prelude.{◌≡◌, ℕ, ◌<◌, Bool, true, false, not, List, [], length, Ok, Err, Result, slice_index_or}
use Rattle.values.specs.Releases.{release_row}
use Rattle.values.specs.Texts.{text_bytes}
use Rattle.values.specs.declared.faults.Fault.{Fault}
use Rattle.values.specs.declared.faults.Fault.TheVariants.{UnknownId}
use Rattle.values.specs.declared.keys.MarkerValueVersion.{MarkerValueVersion}
use Rattle.values.specs.declared.keys.MarkerValueString.{MarkerValueString}
use Rattle.values.specs.declared.releases.Release.{Release}
use Rattle.values.specs.declared.texts.Text.{Text}
use Rattle.ranges.specs.Bounds.{lies}
use Rattle.ranges.specs.Cover.{no_edge}
use Rattle.ranges.specs.declared.edges.Edge.{Edge}
use Rattle.diagrams.specs.Tables.{Table}
use Rattle.diagrams.specs.Ids.{opposite}
use Rattle.diagrams.specs.Views.{always, never, version, string, in_literal, has_literal, extra, extra_text, known, view}
use Rattle.hosts.specs.Hosts.{Meaning, text_of}
use Rattle.evaluation.specs.Substrings.{Within}
use Rattle.evaluation.specs.Walks.{walk}

-- an id says yes or no on a host
pub data Says (m : Meaning) (t : Table) : ℕ → Bool → Type 0 where
  at_true : {id : ℕ} → view t id ≡ Ok always → Says m t id true
  at_false : {id : ℕ} → view t id ≡ Ok never → Says m t id false
  -- a release or text node says what the child says whose range contains the host's value
  at_version : {id : ℕ} {b : Bool} (k : MarkerValueVersion) (es : List (Edge Release)) (j : ℕ) → view t id ≡ Ok (version k es) → j < length es → lies release_row (slice_index_or es j no_edge) (release_row (m.release k)) ≡ true
      → Says m t (slice_index_or es j no_edge).child b → Says m t id b
  at_string : {id : ℕ} {b : Bool} (k : MarkerValueString) (es : List (Edge Text)) (j : ℕ) → view t id ≡ Ok (string k es) → j < length es → lies text_bytes (slice_index_or es j no_edge) (text_of m k) ≡ true
      → Says m t (slice_index_or es j no_edge).child b → Says m t id b
  -- the host's text stands in the literal, or not
  in_high : {id : ℕ} {b : Bool} (k : MarkerValueString) (l : Text) (high low : ℕ) → view t id ≡ Ok (in_literal k l high low) → Within (text_of m k) (text_bytes l) → Says m t high b → Says m t id b
  in_low : {id : ℕ} {b : Bool} (k : MarkerValueString) (l : Text) (high low : ℕ) → view t id ≡ Ok (in_literal k l high low) → (Within (text_of m k) (text_bytes l) → ⊥) → Says m t low b → Says m t id b
  -- the literal stands in the host's text, or not
  has_high : {id : ℕ} {b : Bool} (k : MarkerValueString) (l : Text) (high low : ℕ) → view t id ≡ Ok (has_literal k l high low) → Within (text_bytes l) (text_of m k) → Says m t high b → Says m t id b
  has_low : {id : ℕ} {b : Bool} (k : MarkerValueString) (l : Text) (high low : ℕ) → view t id ≡ Ok (has_literal k l high low) → (Within (text_bytes l) (text_of m k) → ⊥) → Says m t low b → Says m t id b
  -- a named extra is active or not, one with any text never
  extra_high : {id : ℕ} {b : Bool} (l : Text) (high low : ℕ) → view t id ≡ Ok (extra l high low) → m.active (text_bytes l) ≡ true → Says m t high b → Says m t id b
  extra_low : {id : ℕ} {b : Bool} (l : Text) (high low : ℕ) → view t id ≡ Ok (extra l high low) → m.active (text_bytes l) ≡ false → Says m t low b → Says m t id b
  text_low : {id : ℕ} {b : Bool} (l : Text) (high low : ℕ) → view t id ≡ Ok (extra_text l high low) → Says m t low b → Says m t id b

-- yes for no, and a refusal for itself
abbrev pub negated : Result Bool Fault → Result Bool Fault
negated (Ok b) = Ok (not b)
negated (Err f) = Err f

-- THE LAW of evaluation, of an admitted table and every host
pub record Evaluates (t : Table) : Type 0 where
  -- an id that the table has says yes or no, and that is the answer
  pub says : (m : Meaning) (id : ℕ) → known t id ≡ true → (b : Bool) × (((walk m t id).answer ≡ Ok b) × Says m t id b)
  pub only : (m : Meaning) (id : ℕ) (b : Bool) → Says m t id b → (walk m t id).answer ≡ Ok b
  -- an id that it lacks is refused, and reports nothing
  pub lacks : (m : Meaning) (id : ℕ) → known t id ≡ false → ((walk m t id).answer ≡ Err UnknownId) × ((walk m t id).reports ≡ [])
  -- negating a root negates the answer, and changes no report
  pub negates : (m : Meaning) (id : ℕ) → (walk m t (opposite id)).answer ≡ negated (walk m t id).answer
  pub alike : (m : Meaning) (id : ℕ) → (walk m t (opposite id)).reports ≡ (walk m t id).reports
