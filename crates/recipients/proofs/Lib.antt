pub mod RecipientLaws
