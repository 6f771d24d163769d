-- Identifiers, consumers and answers, with plain numbers.
-- Assumes nothing.
use Rattle.std.specs.Prelude.{ℕ, Option}
use Rattle.rules.specs.declared.PublicationId.{PublicationId}
use Rattle.rules.specs.declared.LeaseId.{LeaseId}
use Rattle.rules.specs.declared.Consumer.{Consumer}
use Rattle.rules.specs.declared.Reading.{Reading}
use Rattle.rules.specs.declared.Observation.{Observation}
use Rattle.rules.specs.declared.Leased.{Leased}
use Rattle.rules.specs.Table.{taken_by}

abbrev pub publication : ℕ → PublicationId
publication id = record { 0 = id }

abbrev pub lease : ℕ → LeaseId
lease id = record { 0 = id }

abbrev pub episode : ℕ → ℕ → Option Consumer
episode owner generation = taken_by (record { 0 = owner }) generation

abbrev pub reading : ℕ → ℕ → ℕ → Reading
reading id revision handle = record { id = publication id; revision = revision; handle = handle }

abbrev pub observation : ℕ → ℕ → Observation
observation revision handle = record { revision = revision; handle = handle }

abbrev pub leased : ℕ → ℕ → Leased
leased id handle = record { id = publication id; handle = handle }
