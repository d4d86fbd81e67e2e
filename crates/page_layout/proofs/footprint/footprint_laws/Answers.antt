use Rattle.ports.specs.FrameLaws.{names_page-append}
use Rattle.page_layout.specs.FootprintLaws.{apart_append, apart_parts, apart_sym, names_permuted, not_twice, once_apart, once_each, once_join, once_left, once_permuted, once_right, times_append}
use Rattle.page_layout.proofs.footprint.footprint_laws.Goals as goal

pub returns : goal.returns
returns c = record {
  names = names_page-append;
  none_twice = λ xs ys.
      (λ once. (once_left xs ys once, once_right xs ys once, once_apart xs ys once), λ parts. once_join xs ys parts.0 parts.1 parts.2);
  apart = λ xs ys zs. (apart_parts xs ys zs, λ both. apart_append xs ys zs both.0 both.1);
  both_ways = apart_sym;
  any_order = λ xs ys same. (once_permuted xs ys same, λ page. names_permuted xs ys page same);
  counted = λ xs. (λ once page. not_twice xs page once, once_each xs);
  times = times_append;
}
