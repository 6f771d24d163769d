-- The values of an answer to a command are those that the trace writes.
-- Assumes nothing.
use Prim.Native.Nat.{ℕ}
use mathlib.Core.Path.{◌≡◌, refl}
use Rattle.rules.specs.Answers.{refused, done}
use Rattle.rules.specs.Commands.{AnswerTo, answer_values}
use Rattle.rules.specs.declared.PublicationId.{PublicationId}
use Rattle.rules.specs.declared.LeaseId.{LeaseId}
use Rattle.rules.specs.declared.Owner.{Owner}
use Rattle.rules.specs.declared.Port.{Port}
use Rattle.rules.specs.declared.Command.TheVariants.{Publish, Adopt, Acquire, Release, Revoke, Replace, Reclaim, Read, Observe, Resolve, Count}
use Rattle.registry.specs.Answers.{result_of}
use Rattle.store.specs.Answers.{rejected_of}
use Rattle.rules.specs.RegistryRows.{adopt, acquire, release, revoke, resolve}
use Rattle.rules.specs.Table.{taken_by}
use Rattle.numbers.specs.Calls.{call_values}
use Rattle.numbers.specs.Registry.{result_values, no_values, id_values, lease_id_values, number_values}
use Rattle.numbers.specs.Store.{read_values, observe_values}

pub publish_says : (o : Owner) (g : ℕ) (q : Port) (v : ℕ) (a : AnswerTo (Publish o g q v)) → result_values id_values (rejected_of a) ≡ answer_values (Publish o g q v) a
publish_says o g q v (refused r b) = refl
publish_says o g q v (done x) = refl

pub adopt_says : (p : PublicationId) (o : Owner) (g : ℕ) (a : AnswerTo (Adopt p o g)) → result_values no_values (result_of a) ≡ answer_values (Adopt p o g) a
adopt_says p o g (refused r b) = refl
adopt_says p o g (done x) = refl

pub acquire_says : (p : PublicationId) (o : Owner) (g : ℕ) (a : AnswerTo (Acquire p o g)) → result_values lease_id_values (result_of a) ≡ answer_values (Acquire p o g) a
acquire_says p o g (refused r b) = refl
acquire_says p o g (done x) = refl

pub release_says : (i : LeaseId) (a : AnswerTo (Release i)) → result_values no_values (result_of a) ≡ answer_values (Release i) a
release_says i (refused r b) = refl
release_says i (done x) = refl

pub revoke_says : (p : PublicationId) (a : AnswerTo (Revoke p)) → result_values no_values (result_of a) ≡ answer_values (Revoke p) a
revoke_says p (refused r b) = refl
revoke_says p (done x) = refl

pub replace_says : (p : PublicationId) (o : Owner) (g v : ℕ) (a : AnswerTo (Replace p o g v)) → result_values number_values (rejected_of a) ≡ answer_values (Replace p o g v) a
replace_says p o g v (refused r b) = refl
replace_says p o g v (done x) = refl

pub reclaim_says : (p : PublicationId) (a : AnswerTo (Reclaim p)) → result_values number_values (result_of a) ≡ answer_values (Reclaim p) a
reclaim_says p (refused r b) = refl
reclaim_says p (done x) = refl

pub read_says : (i : LeaseId) (a : AnswerTo (Read i)) → result_values read_values (result_of a) ≡ answer_values (Read i) a
read_says i (refused r b) = refl
read_says i (done x) = refl

pub observe_says : (p : PublicationId) (a : AnswerTo (Observe p)) → result_values observe_values (result_of a) ≡ answer_values (Observe p) a
observe_says p (refused r b) = refl
observe_says p (done x) = refl

pub resolve_says : (q : Port) (a : AnswerTo (Resolve q)) → result_values id_values (result_of a) ≡ answer_values (Resolve q) a
resolve_says q (refused r b) = refl
resolve_says q (done x) = refl

pub count_says : (a : AnswerTo Count) → result_values number_values (result_of a) ≡ answer_values Count a
count_says (refused r b) = refl
count_says (done x) = refl

-- the registry's answer to a call that the store has as well has the values of the store's

pub adopt_shared : (p : PublicationId) (o : Owner) (g : ℕ) (a : AnswerTo (Adopt p o g)) → call_values (adopt p o g) a ≡ answer_values (Adopt p o g) a
adopt_shared = adopt_says

pub acquire_shared : (p : PublicationId) (o : Owner) (g : ℕ) (a : AnswerTo (Acquire p o g)) → call_values (acquire p (taken_by o g)) a ≡ answer_values (Acquire p o g) a
acquire_shared = acquire_says

pub release_shared : (i : LeaseId) (a : AnswerTo (Release i)) → call_values (release i) a ≡ answer_values (Release i) a
release_shared = release_says

pub revoke_shared : (p : PublicationId) (a : AnswerTo (Revoke p)) → call_values (revoke p) a ≡ answer_values (Revoke p) a
revoke_shared = revoke_says

pub resolve_shared : (q : Port) (a : AnswerTo (Resolve q)) → call_values (resolve q) a ≡ answer_values (Resolve q) a
resolve_shared = resolve_says
