-- A store that tells its count is sound, so its leases fit.
use Rattle.rules.specs.Limits.{box}
use Rattle.store.specs.Columns.{columns_of}
use Rattle.explain.proofs.Retained.{leases_fit}
use Rattle.explain.proofs.ending.tell_retained.Goals as goal

pub tell_publications-requires : goal.tell_publications-requires
tell_publications-requires g c =
    leases_fit box (columns_of c.args.store) c.retained_count.result _ c.retained_count.ensures c.in-Ok.is
