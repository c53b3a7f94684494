use Rattle.std.proofs.Common.{◌∙◌, ◌∷◌, ◌++◌, [], List, ap, refl, rules}
use Rattle.asn1_types.specs.declared.model.Definition.{Definition}
use Rattle.asn1_types.proofs.resolver.add_definition.Goals as goal

pub returns-clause-added : goal.returns-clause-added
returns-clause-added c =
    let added : Definition = record {
      place = c.args.place;
      assignment = c.args.r.now.work.assignment;
      path = c.in_ok-path.path;
      is_exported = c.if-r.is_exported;
      tags = c.args.tags;
      body = c.args.body;
      looser = c.args.looser;
    } in
    record {
      definition = added;
      set = c.in_ok-set.set;
      modules = refl;
      known = refl;
      is_incomplete = refl;
      definitions = c.in_ok-push-2.ensures.items ∙ ap (λ (l : List Definition). l ++ added ∷ []) c.reserve.ensures.items;
      sets = c.in_ok-push.ensures.items;
      at = search rules;
      place_is = refl;
      assignment_is = refl;
      tags_are = refl;
      body_is = refl;
      is_untagged = rw c.as_slice-2.ensures.value at c.in_ok-set.ensures;
    }
