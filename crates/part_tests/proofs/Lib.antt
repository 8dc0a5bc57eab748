mod History
