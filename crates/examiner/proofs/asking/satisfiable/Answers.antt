-- The path's fault, or what is found of its facts and words (Queries.antt).
use Rattle.examiner.proofs.Leaving.{leaves}
use native.Mathlib.Omega.{arith}
use Rattle.survey.proofs.Loading.{loads_told}
use Rattle.examiner.proofs.Queries.{few_words, query_refused, query_told}
use Rattle.examiner.proofs.asking.satisfiable.Goals as goal

pub returns-in_err-facts : goal.returns-in_err-facts
returns-in_err-facts c = leaves _ _ _ c.from_residual.ensures.1 (query_refused _ _ _ _ c.route.ensures _ _ _ c.in_err-facts.was)

pub shared_ref_as_front-query : goal.shared_ref_as_front-query
shared_ref_as_front-query c = omega (arith, (loads_told _ _ _ c.route.ensures _ c.in_ok-facts.was).words)

pub query-requires : goal.query-requires
query-requires c = let t = loads_told _ _ _ c.route.ensures _ c.in_ok-facts.was in (c.requires, t.within, few_words _ _ t)

pub returns : goal.returns
returns c = query_told _ _ _ _ c.route.ensures _ _ _ c.in_ok-facts.was _ c.query.ensures
