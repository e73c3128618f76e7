use Rattle.commands.proofs.edit_report.said.push_reason.Goals as goal

pub returns-in-UnknownName : goal.returns-in-UnknownName
returns-in-UnknownName c = rw c.in-UnknownName.is (rw c.as_str.ensures.value at c.push_both.ensures)

pub returns-in-NameTaken : goal.returns-in-NameTaken
returns-in-NameTaken c =
    rw c.in-NameTaken.is (rw c.as_str-in-NameTaken.ensures.value at c.push_both-in-NameTaken.ensures)
