-- Demand 1 of the calls that C makes: what a call comes to, handed over.
use mathlib.Core.Path.{ap}
use Rattle.book.specs.Table.{Said, Returned}
use Rattle.book.proofs.Refusals.{demand1}
use Rattle.interface.specs.Told.{number_of, replied}
use Rattle.interface.specs.Calls.{left, handed, ct_fresh, ct_insert, ct_remove, ct_query, ct_ceiling, ct_read_back, ct_check, ct_backward}
use Rattle.interface.specs.Claims.{CtDemand1}

pub ct_demand1 : CtDemand1
unfolding ct_fresh ct_insert ct_remove ct_query ct_ceiling ct_read_back ct_check ct_backward
ct_demand1 =
    record {
      freshening = λ T. ap left (demand1.freshening T);
      inserting = λ T c n ts. ap (λ (r : Returned). handed r ts) (demand1.inserting T c n);
      removing = λ T n. ap left (demand1.removing T n);
      asking = λ T d b W ts. ap (λ (r : Returned). handed r ts) (demand1.asking T d b W);
      bounding = λ k q m ts. ap (λ (s : Said). replied s ts) (demand1.bounding k q m);
      checking = λ T. ap (λ (s : Said). number_of s.title) (demand1.checking T);
      reading_back = λ T n W ts. ap (λ (r : Returned). handed r ts) (demand1.reading_back T n W);
      listing = λ T c b L ts. ap (λ (r : Returned). handed r ts) (demand1.listing T c b L);
    }
