-- No contract lets a wrong outcome of the tables through.
-- Assumes nothing.
use Rattle.tight.specs.Wrong.{AllRefused}
use Rattle.tight.specs.WrongPublications.{wrong_publications, wrong_publications_differ}
use Rattle.tight.specs.WrongLeases.{wrong_leases, wrong_leases_differ}
use Rattle.tight.specs.WrongQueries.{wrong_queries, wrong_queries_differ}
use Rattle.tight.specs.WrongRegistryPublications.{wrong_registry_publications, wrong_registry_publications_differ}
use Rattle.tight.specs.WrongRegistryLeases.{wrong_registry_leases, wrong_registry_leases_differ}
use Rattle.tight.specs.WrongRegistryQueries.{wrong_registry_queries, wrong_registry_queries_differ}
use Rattle.tight.specs.WrongMakers.{wrong_makers, wrong_makers_differ}
use Rattle.tight.specs.WrongCell.{wrong_cells, wrong_cells_differ}
use Rattle.tight.proofs.Different.{all_refused}

-- the store

pub wrong_publications_refused : AllRefused wrong_publications
wrong_publications_refused = all_refused wrong_publications wrong_publications_differ

pub wrong_leases_refused : AllRefused wrong_leases
wrong_leases_refused = all_refused wrong_leases wrong_leases_differ

pub wrong_queries_refused : AllRefused wrong_queries
wrong_queries_refused = all_refused wrong_queries wrong_queries_differ

-- the registry

pub wrong_registry_publications_refused : AllRefused wrong_registry_publications
wrong_registry_publications_refused = all_refused wrong_registry_publications wrong_registry_publications_differ

pub wrong_registry_leases_refused : AllRefused wrong_registry_leases
wrong_registry_leases_refused = all_refused wrong_registry_leases wrong_registry_leases_differ

pub wrong_registry_queries_refused : AllRefused wrong_registry_queries
wrong_registry_queries_refused = all_refused wrong_registry_queries wrong_registry_queries_differ

-- both: their makers; the cell

pub wrong_makers_refused : AllRefused wrong_makers
wrong_makers_refused = all_refused wrong_makers wrong_makers_differ

pub wrong_cells_refused : AllRefused wrong_cells
wrong_cells_refused = all_refused wrong_cells wrong_cells_differ
