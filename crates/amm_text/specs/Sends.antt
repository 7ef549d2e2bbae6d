-- Values as what they send to a `Serializer`.
use Rattle.std.specs.Prelude.{ℕ, List, Some}
use Rattle.serde.specs.Event.{Log, Logs, WritesEach, seq_begins}
use Rattle.serde_json.specs.Data.{Data}
use Rattle.serde_json.specs.Events.{SendsValue}

-- these values, one behind the other
abbrev pub SendsEach : List Data → Log → Log → Type 0
SendsEach ds = WritesEach SendsValue ds

-- the front of an array of n values
abbrev pub SendsFront : ℕ → List Data → Log → Log → Type 0
SendsFront n ds old new = (first : Log) × Logs old first (seq_begins (Some n)) × SendsEach ds first new
