-- What a call writes, it writes into the lists that it was lent: the layout after it has the same three references.
use Rattle.std.specs.Prelude.{◌≡◌}
use Rattle.embedding.specs.declared.layout.Layout.{Layout}

pub record SameLists (old new : Layout) : Type 0 where
  pub same_u : new.us.ghost_name ≡ old.us.ghost_name
  pub same_v : new.vs.ghost_name ≡ old.vs.ghost_name
  pub same_w : new.ws.ghost_name ≡ old.ws.ghost_name
